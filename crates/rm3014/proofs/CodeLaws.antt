-- Laws of the code: the row masks make its words, the columns check them, and no other word passes.
-- Assumes nothing.
use mathlib.Core.Path.{◌≡◌, refl, sym, ap, ap₂, ◌∙◌}
use mathlib.Core.List.{List, [], ◌∷◌, map}
use mathlib.Core.Bool.{Bool}
use Prim.Native.Nat.{ℕ, zero, suc, ◌+◌, ◌-◌, ◌*◌, ◌/◌, ◌%◌, ◌^◌, ◌≤◌, ◌<◌}
use native.Mathlib.Nat.{mod-eq_of_lt}
use native.Mathlib.Omega.{arith}
use lib.Bits.{bit_xor, xor_shifted}
use lib.Dec.{eqb, eqb→eq, ltb, ltb→lt}
use lib.ListN.{length, get_or, drop, replicate, get_or-append, get_or-map}
use lib.Pow.{high, low, split}
use lib.Seq.{drop-cons, drop-length}
use Rattle.base.specs.Digits.{number}
use Rattle.base.specs.Places.{tabulate, written}
use Rattle.base.proofs.Table.{below, at}
use Rattle.base.proofs.Lists.{tabulate_length, tabulate_of, written_whole}
use Rattle.linear.specs.Linear.{image, place_from}
use Rattle.linear.specs.private.Linear.{units, Separate}
use Rattle.linear.proofs.Maps.{xor_nothing, sums, image_mod, image_append, image_lt, image_image, image_sums, image_units, image_raised, image_undone, image_nothing}
use Rattle.linear.proofs.WrongBits.{separate_by_test, place_at}
use Rattle.rm3014.specs.Code.{table, parity, code_word, data_of, upwards, columns, syndrome, place_of}

-- ---- code words
-- the row masks
unfoldable pub masks : List ℕ
masks =
    0x20009b60 ∷ 0x10002de0 ∷ 0x0800fc20 ∷ 0x0400e03c ∷ 0x0200983a ∷ 0x01005436 ∷ 0x00802c2e ∷ 0x0040ffdf ∷ 0x00208339
    ∷ 0x001042b5 ∷ 0x000821ad ∷ 0x00041273 ∷ 0x0002096b ∷ 0x000104e7 ∷ []

rows_below : (i : ℕ) → i < 14 → get_or (map number table) i 0 < 2 ^ 16
unfolding table
rows_below i h = ltb→lt (get_or (map number table) i 0) (2 ^ 16) (at (λ (i : ℕ). ltb (get_or (map number table) i 0) (2 ^ 16)) 14 tt i h)

pub parity_lt : (input : ℕ) → parity input < 2 ^ 16
unfolding parity table
parity_lt input = image_lt 16 (map number table) rows_below input

-- each mask is its data bit's own place and the table's row
masks_rows : masks ≡ sums (map (λ (c : ℕ). c * 2 ^ 16) (units 14)) (map number table)
unfolding masks table
masks_rows = refl

-- the row masks agree with the table on every data word
pub masks_agree : (input : ℕ) → input < 2 ^ 14 → image masks input ≡ code_word input
unfolding code_word parity table
masks_agree input h =
    ap (λ (cs : List ℕ). image cs input) masks_rows
    ∙ image_sums (map (λ (c : ℕ). c * 2 ^ 16) (units 14)) (map number table) input refl
    ∙ ap (λ (x : ℕ). bit_xor x (image (map number table) input)) (image_raised 16 (units 14) input ∙ ap (λ (x : ℕ). x * 2 ^ 16) (image_units 14 input ∙ mod-eq_of_lt h))
    ∙ xor_shifted input 16 (image (map number table) input) (image_lt 16 (map number table) rows_below input)

-- the data bits of a code word are its data
pub code_data : (input : ℕ) → data_of (code_word input) ≡ input
unfolding code_word
code_data input = high input 16 (parity_lt input)

pub code_lt : (input : ℕ) → input < 2 ^ 14 → code_word input < 2 ^ 30
unfolding code_word
code_lt input h = omega (arith, parity_lt input)

-- ---- the check
pub columns_length : length columns ≡ 30
unfolding columns table tabulate
columns_length = refl

columns_below : (i : ℕ) → i < 30 → get_or columns i 0 < 2 ^ 16
unfolding columns table tabulate
columns_below i h = ltb→lt (get_or columns i 0) (2 ^ 16) (at (λ (i : ℕ). ltb (get_or columns i 0) (2 ^ 16)) 30 tt i h)

pub syndrome_lt : (word : ℕ) → syndrome word < 2 ^ 16
unfolding syndrome
syndrome_lt word = image_lt 16 columns (λ i h. columns_below i (omega (arith, columns_length))) word

-- ---- a loop that reads a row of the table from its last entry
row_length : ℕ → Bool
row_length k = eqb (length (get_or table k [])) 16

row_fits : ℕ → ℕ → Bool
row_fits k j = ltb (upwards (drop j (get_or table k []))) (2 ^ 16)

upwards_cons : (row : List ℕ) (j : ℕ) → j < length row → upwards (drop j row) ≡ upwards (drop (suc j) row) * 2 + get_or row j 0
upwards_cons row j h = ap upwards (drop-cons row j 0 h) ∙ omega arith

row_length_lem : (k : ℕ) → k < 14 → length (get_or table k []) ≡ 16
unfolding table row_length
row_length_lem k h = eqb→eq (length (get_or table k [])) 16 (at row_length 14 tt k h)

pub row_whole : (k : ℕ) → k < 14 → 0 ≡ upwards (drop 16 (get_or table k []))
row_whole k h =
    sym (ap (λ (n : ℕ). upwards (drop n (get_or table k []))) (sym (row_length_lem k h)) ∙ ap upwards (drop-length (get_or table k [])))

pub row_turn : (k j sum : ℕ) → k < 14 → 0 < j → j ≤ 16 → sum ≡ upwards (drop j (get_or table k []))
    → (sum * 2 + get_or (get_or table k []) (j - 1) 0 ≡ upwards (drop (j - 1) (get_or table k []))) × (sum * 2 + get_or (get_or table k []) (j - 1) 0 < 2 ^ 16)
unfolding table row_fits
row_turn k j sum h p l e =
    let row = get_or table k [] in
    let n = row_length_lem k h in
    let s : suc (j - 1) ≡ j = omega arith in
    let t : sum * 2 + get_or row (j - 1) 0 ≡ upwards (drop (j - 1) row) =
    ap (λ (x : ℕ). x * 2 + get_or row (j - 1) 0) (e ∙ ap (λ (i : ℕ). upwards (drop i row)) (sym s)) ∙ sym (upwards_cons row (j - 1) (omega (arith, n))) in
    (t, omega (arith, t, ltb→lt (upwards (drop (j - 1) row)) (2 ^ 16) (at (row_fits k) 16 (at (λ (k : ℕ). below (row_fits k) 16) 14 tt k h) (j - 1) (omega arith))))

-- ---- the columns one by one
pub data_column : (k : ℕ) → k < 14 → upwards (get_or table k []) ≡ get_or columns k 0
unfolding columns table
data_column k h =
    sym (get_or-append (map upwards table) (tabulate (λ j. 2 ^ j) 16) 0 k h ∙ get_or-map upwards table k [])

own_column : ℕ → Bool
own_column j = eqb (1 * 2 ^ j % 2 ^ 16) (get_or columns (14 + j) 0)

pub own_column_lem : (k : ℕ) → 14 ≤ k → k < 30 → 1 * 2 ^ (k - 14) % 2 ^ 16 ≡ get_or columns k 0
unfolding columns table tabulate own_column
own_column_lem k h l =
    let e : 14 + (k - 14) ≡ k = omega arith in
    eqb→eq (1 * 2 ^ (k - 14) % 2 ^ 16) (get_or columns (14 + (k - 14)) 0) (at own_column 16 tt (k - 14) (omega arith)) ∙ ap (λ (i : ℕ). get_or columns i 0) e

-- a loop that writes them all
pub columns_written : (out : List ℕ) → length out ≡ 30 → written (tabulate (λ k. get_or columns k 0) 30) out ≡ columns
columns_written out e =
    let f : length (tabulate (λ k. get_or columns k 0) 30) ≡ length out = tabulate_length (λ k. get_or columns k 0) 30 ∙ sym e in
    written_whole (tabulate (λ k. get_or columns k 0) 30) out f ∙ sym (tabulate_of columns (λ k. get_or columns k 0) 30 columns_length (λ i h. refl))

-- a place is at most 30
pub place_le : (s : ℕ) → place_of s ≤ 30
unfolding place_of
place_le s = go (place_from 1 s columns) refl
  where
    go : (p : ℕ) → place_from 1 s columns ≡ p → p ≤ 30
    go zero e = omega arith
    go (suc p) e =
        let r = place_at 1 s columns p (omega arith) e in
        omega (arith, r.1, r.2, columns_length)

masks_pass : map (image columns) masks ≡ replicate 14 0
unfolding masks columns table tabulate
masks_pass = refl

pub code_passes : (input : ℕ) → input < 2 ^ 14 → syndrome (code_word input) ≡ 0
unfolding syndrome
code_passes input h =
    ap (image columns) (sym (masks_agree input h)) ∙ image_image columns masks input
    ∙ ap (λ (cs : List ℕ). image cs input) masks_pass ∙ image_nothing 14 input

-- one wrong bit is told from none and from two
pub columns_separate : Separate columns
unfolding columns table tabulate
columns_separate = separate_by_test columns tt

-- ---- no other word passes
-- the columns of the parity places
unfoldable pub own_bits : List ℕ
own_bits = tabulate (λ j. 2 ^ j) 16

own_undone : map (image own_bits) own_bits ≡ units 16
unfolding own_bits tabulate
own_undone = refl

-- the syndrome weighs the data bits' columns against the parity bits'
pub syndrome_parts : (d q : ℕ) → q < 2 ^ 16 → syndrome (d * 2 ^ 16 + q) ≡ bit_xor (image (map upwards table) d) (image own_bits q)
unfolding syndrome columns own_bits tabulate
syndrome_parts d q h =
    image_append (map upwards table) (tabulate (λ j. 2 ^ j) 16) (d * 2 ^ 16 + q)
    ∙ ap₂ (λ (x y : ℕ). bit_xor (image (map upwards table) x) y) (high d 16 h)
    (image_mod (tabulate (λ j. 2 ^ j) 16) 16 (d * 2 ^ 16 + q) (omega arith) ∙ ap (image (tabulate (λ j. 2 ^ j) 16)) (low d 16 h))

parity_only : (d q : ℕ) → d < 2 ^ 14 → q < 2 ^ 16 → syndrome (d * 2 ^ 16 + q) ≡ 0 → q ≡ parity d
unfolding code_word
parity_only d q h k e =
    let a = xor_nothing (image (map upwards table) d) (image own_bits q) (sym (syndrome_parts d q k) ∙ e) in
    let b = xor_nothing (image (map upwards table) d) (image own_bits (parity d)) (sym (syndrome_parts d (parity d) (parity_lt d)) ∙ code_passes d h) in
    sym (image_undone own_bits own_bits 16 own_undone q k) ∙ ap (image own_bits) (sym a ∙ b)
    ∙ image_undone own_bits own_bits 16 own_undone (parity d) (parity_lt d)

pub only_code_passes : (word : ℕ) → word < 2 ^ 30 → syndrome word ≡ 0 → word ≡ code_word (data_of word)
unfolding code_word
only_code_passes word h e =
    let s : word / 2 ^ 16 * 2 ^ 16 + word % 2 ^ 16 ≡ word = split word 16 in
    let q = parity_only (word / 2 ^ 16) (word % 2 ^ 16) (omega arith) (omega arith) (ap syndrome s ∙ e) in
    sym s ∙ ap (λ (x : ℕ). word / 2 ^ 16 * 2 ^ 16 + x) q
