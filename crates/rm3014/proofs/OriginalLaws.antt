-- The syndrome is the original's, check by check, and a verdict carries the 14 bits that the original decodes.
-- Assumes nothing.
use mathlib.Core.Path.{◌≡◌, refl, sym, ap, ap₂, ◌∙◌}
use mathlib.Core.List.{List, [], ◌∷◌, ◌++◌, map}
use mathlib.Core.Bool.{Bool, true, false, cond}
use Prim.Native.Nat.{ℕ, zero, suc, ◌+◌, ◌-◌, ◌*◌, ◌/◌, ◌%◌, ◌^◌, ◌<◌}
use native.Mathlib.Nat.{zero-mul, one-mul, pow-suc, mul_assoc, mod-eq_of_lt, div-eq_of_lt, div_self, zero-div}
use native.Mathlib.Omega.{arith}
use lib.Bits.{bit_xor, xor_zero_r}
use lib.Dec.{T, eqb, eqb→eq, eqb-suc-zero, ltb}
use lib.ListN.{length, get_or}
use lib.Pow.{pow-add, pow_pos, pow-lt, shl-shr, shr-shr, split}
use borrow.Author.Tests.{ltb-true, ltb-false}
use Rattle.base.specs.Bits.{both}
use Rattle.base.specs.Digits.{digits, dot}
use Rattle.base.specs.Places.{tabulate}
use Rattle.base.proofs.Lists.{tabulate_length, tabulate_at, tabulate_same}
use Rattle.base.proofs.Table.{at, both_left, both_right}
use Rattle.linear.specs.Linear.{image, place_from}
use Rattle.linear.proofs.Maps.{xor_bit_at, low_bit, mod_more, image_append, image_bit, image_lt}
use Rattle.rm3014.specs.Code.{table, upwards, columns, syndrome, place_of}
use Rattle.rm3014.specs.Verdict.{verdict, bits_in}
use Rattle.rm3014.specs.Original.{check, checks, corrected, decoded}
use Rattle.rm3014.proofs.CodeLaws.{own_bits, syndrome_lt, syndrome_parts, columns_length}
use Rattle.rm3014.proofs.VerdictLaws.{by_place, by_syndrome, place_decides}

-- ---- a number, its bits from the lowest
upwards_last : (l : List ℕ) (b : ℕ) → upwards (l ++ (b ∷ [])) ≡ b * 2 ^ length l + upwards l
upwards_last [] b = omega arith
upwards_last (x ∷ l) b =
    ap (λ (y : ℕ). x + 2 * y) (upwards_last l b)
    ∙ up (upwards l) (b * 2 ^ length l) (b * 2 ^ suc (length l)) (ap (λ (y : ℕ). b * y) (pow-suc 2 (length l)) ∙ sym (mul_assoc b (2 ^ length l) 2))
  where
    up : (u m n : ℕ) → n ≡ m * 2 → x + 2 * (m + u) ≡ n + (x + 2 * u)
    up u m n e = omega arith

upwards_bits : (x n : ℕ) → upwards (tabulate (λ j. x / 2 ^ j % 2) n) ≡ x % 2 ^ n
unfolding tabulate
upwards_bits x zero = omega arith
upwards_bits x (suc n) =
    upwards_last (tabulate (λ j. x / 2 ^ j % 2) n) (x / 2 ^ n % 2)
    ∙ ap₂ (λ (l u : ℕ). x / 2 ^ n % 2 * 2 ^ l + u) (tabulate_length (λ j. x / 2 ^ j % 2) n) (upwards_bits x n) ∙ sym (mod_more x n)

-- ---- bit j of the columns
-- of the data places: entry j of the table's rows
agrees_at : ℕ → List (List ℕ) → Bool
agrees_at j [] = true
agrees_at j (r ∷ rs) = both (eqb (upwards r / 2 ^ j % 2) (get_or r j 0)) (agrees_at j rs)

entries : (j : ℕ) (rs : List (List ℕ)) → T (agrees_at j rs) → map (λ (c : ℕ). c / 2 ^ j % 2) (map upwards rs) ≡ map (λ (row : List ℕ). get_or row j 0) rs
unfolding agrees_at
entries j [] t = refl
entries j (r ∷ rs) t =
    ap₂ (λ (x : ℕ) (xs : List ℕ). x ∷ xs) (eqb→eq (upwards r / 2 ^ j % 2) (get_or r j 0) (both_left (eqb (upwards r / 2 ^ j % 2) (get_or r j 0)) (agrees_at j rs) t))
    (entries j rs (both_right (eqb (upwards r / 2 ^ j % 2) (get_or r j 0)) (agrees_at j rs) t))

table_entries : (j : ℕ) → j < 16 → map (λ (c : ℕ). c / 2 ^ j % 2) (map upwards table) ≡ map (λ (row : List ℕ). get_or row j 0) table
unfolding agrees_at table
table_entries j h = entries j table (at (λ (j : ℕ). agrees_at j table) 16 tt j h)

-- of the parity places: the bit at place j
power_bit : (n j : ℕ) → j < n → 2 ^ n / 2 ^ j % 2 ≡ 0
power_bit n j h =
    let e : n ≡ suc (n - j - 1) + j = omega arith in
    let d : 2 ^ n / 2 ^ j ≡ 2 ^ (n - j - 1) * 2 =
    ap (λ (k : ℕ). 2 ^ k / 2 ^ j) e ∙ ap (λ (x : ℕ). x / 2 ^ j) (pow-add 2 (suc (n - j - 1)) j) ∙ shl-shr (2 ^ suc (n - j - 1)) j ∙ pow-suc 2 (n - j - 1) in
    omega (arith, d)

chosen_low : (b n j : ℕ) → b < 2 → j < n → b * 2 ^ n / 2 ^ j % 2 ≡ 0
chosen_low zero n j l h = simp (zero-mul, zero-div)
chosen_low (suc zero) n j l h = simp one-mul (power_bit n j h)
chosen_low (suc (suc b)) n j l h = absurd (omega arith)

chosen_own : (b n : ℕ) → b < 2 → b * 2 ^ n / 2 ^ n % 2 ≡ b
chosen_own zero n h = simp (zero-mul, zero-div)
chosen_own (suc zero) n h = simp one-mul (ap (λ (x : ℕ). x % 2) (div_self (pow_pos n)))
chosen_own (suc (suc b)) n h = absurd (omega arith)

own_bit : (n w j : ℕ) → j < n → image (tabulate (λ j. 2 ^ j) n) w / 2 ^ j % 2 ≡ w / 2 ^ (n - 1 - j) % 2
unfolding tabulate
own_bit zero w j h = absurd (omega arith)
own_bit (suc n) w j h =
    ap (λ (x : ℕ). x / 2 ^ j % 2) (image_append powers (2 ^ n ∷ []) w ∙ ap (bit_xor front) (xor_zero_r last)) ∙ xor_bit_at front last j
    ∙ go (own_bit n (w / 2 ^ 1) j) (ltb j n) refl
  where
    powers : List ℕ
    powers = tabulate (λ j. 2 ^ j) n

    front : ℕ
    front = image powers (w / 2 ^ 1)

    last : ℕ
    last = w / 2 ^ 0 % 2 * 2 ^ n

    front_lt : front < 2 ^ n
    front_lt =
        image_lt n powers
        (λ i k. let l : i < n = omega (arith, tabulate_length (λ j. 2 ^ j) n) in rw (tabulate_at (λ j. 2 ^ j) n i l) (pow-lt {i = i} {j = n} l))
        (w / 2 ^ 1)

    sum_left : (x y : ℕ) → y ≡ 0 → (x % 2 + y) % 2 ≡ x % 2
    sum_left x y e = omega arith

    sum_right : (x y z : ℕ) → x ≡ 0 → y ≡ z % 2 → (x % 2 + y) % 2 ≡ z % 2
    sum_right x y z e f = omega arith

    go : (j < n → front / 2 ^ j % 2 ≡ w / 2 ^ 1 / 2 ^ (n - 1 - j) % 2) → (t : Bool) → ltb j n ≡ t
        → (front / 2 ^ j % 2 + last / 2 ^ j % 2) % 2 ≡ w / 2 ^ (suc n - 1 - j) % 2
    go ih true e =
        let l = ltb-true j n e in
        let k : 1 + (n - 1 - j) ≡ suc n - 1 - j = omega arith in
        sum_left (front / 2 ^ j) (last / 2 ^ j % 2) (chosen_low (w / 2 ^ 0 % 2) n j (omega arith) l) ∙ ih l
        ∙ ap (λ (x : ℕ). x % 2) (shr-shr w 1 (n - 1 - j) ∙ ap (λ (x : ℕ). w / 2 ^ x) k)
    go ih false e =
        let k : j ≡ n = omega (arith, ltb-false j n e) in
        let z : 0 ≡ suc n - 1 - j = omega arith in
        ap (λ (x : ℕ). (front / 2 ^ x % 2 + last / 2 ^ x % 2) % 2) k
        ∙ sum_right (front / 2 ^ n) (last / 2 ^ n % 2) (w / 2 ^ 0) (div-eq_of_lt front_lt) (chosen_own (w / 2 ^ 0 % 2) n (omega arith))
        ∙ ap (λ (x : ℕ). w / 2 ^ x % 2) z

-- ---- the syndrome
pub check_bit : (word j : ℕ) → j < 16 → check word j ≡ syndrome word / 2 ^ j % 2
unfolding check own_bits table
check_bit word j h =
    let d = word / 2 ^ 16 in
    let q = word % 2 ^ 16 in
    let left : image (map upwards table) d / 2 ^ j % 2 ≡ dot (digits 14 d) (map (λ (row : List ℕ). get_or row j 0) table) % 2 =
    image_bit (map upwards table) d j ∙ ap (λ (bits : List ℕ). dot (digits 14 d) bits % 2) (table_entries j h) in
    let right : image own_bits q / 2 ^ j % 2 ≡ word / 2 ^ (15 - j) % 2 = own_bit 16 q j h ∙ low_bit word 16 (15 - j) (omega arith) in
    sym (ap (λ (w : ℕ). w / 2 ^ j % 2) (ap syndrome (sym (split word 16)) ∙ syndrome_parts d q (omega arith)) ∙ xor_bit_at (image (map upwards table) d) (image own_bits q) j
    ∙ ap₂ (λ (x y : ℕ). (x + y) % 2) left right ∙ parts (dot (digits 14 d) (map (λ (row : List ℕ). get_or row j 0) table)) (word / 2 ^ (15 - j) % 2))
  where
    parts : (x y : ℕ) → (x % 2 + y) % 2 ≡ (x + y) % 2
    parts x y = omega arith

pub syndrome_checks : (word : ℕ) → checks word ≡ syndrome word
unfolding checks
syndrome_checks word =
    ap upwards (tabulate_same (check word) (λ j. syndrome word / 2 ^ j % 2) 16 (λ j h. check_bit word j h))
    ∙ upwards_bits (syndrome word) 16 ∙ mod-eq_of_lt (syndrome_lt word)

-- ---- the bits of the verdict
corrected_place : (s k word : ℕ) (cs : List ℕ) → 0 < k → k + length cs ≡ 31 → bits_in (by_place (place_from k s cs) word) ≡ corrected s cs word / 2 ^ 16
corrected_place s k word [] h e = refl
corrected_place s k word (c ∷ cs) h e = go (corrected_place s (k + 1) word cs (omega arith) (omega arith)) (eqb c s)
  where
    here : (k : ℕ) → 0 < k → k + length (c ∷ cs) ≡ 31 → bits_in (by_place k word) ≡ bit_xor word (2 ^ length cs) / 2 ^ 16
    here zero h e = absurd (omega arith)
    here (suc k) h e = let l : 30 - suc k ≡ length cs = omega arith in ap (λ (n : ℕ). bit_xor word (2 ^ n) / 2 ^ 16) l

    go : bits_in (by_place (place_from (k + 1) s cs) word) ≡ corrected s cs word / 2 ^ 16 → (t : Bool)
        → bits_in (by_place (cond t k (place_from (k + 1) s cs)) word) ≡ cond t (bit_xor word (2 ^ length cs)) (corrected s cs word) / 2 ^ 16
    go ih true = here k h e
    go ih false = ih

-- the 14 bits of a verdict are those that the original decodes
pub same_bits : (word : ℕ) → bits_in (verdict word) ≡ decoded word
unfolding decoded place_of
same_bits word = go (syndrome word) ∙ ap (λ (s : ℕ). cond (eqb s 0) word (corrected s columns word) / 2 ^ 16) (sym (syndrome_checks word))
  where
    go : (s : ℕ) → bits_in (by_syndrome s word) ≡ cond (eqb s 0) word (corrected s columns word) / 2 ^ 16
    go zero = refl
    go (suc s) =
        ap bits_in (place_decides s (place_of (suc s)) word)
        ∙ corrected_place (suc s) 1 word columns (omega arith) (omega (arith, columns_length))
        ∙ ap (λ (t : Bool). cond t word (corrected (suc s) columns word) / 2 ^ 16) (sym (eqb-suc-zero s))
