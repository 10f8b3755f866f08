-- What a verdict means: Clean and Mended say exactly which code word was sent with no wrong bit or one, and two wrong bits are Beyond.
-- Assumes nothing.
use mathlib.Core.Path.{◌≡◌, refl, sym, ap, ap₂, ◌∙◌}
use mathlib.Core.Bool.{Bool, true, false, cond}
use mathlib.Core.List.{List, [], ◌∷◌}
use Prim.Native.Nat.{ℕ, zero, suc, ◌+◌, ◌-◌, ◌*◌, ◌/◌, ◌%◌, ◌^◌, ◌≤◌, ◌<◌}
use native.Mathlib.Nat.{one-mul, mod-eq_of_lt}
use native.Mathlib.Omega.{arith}
use lib.Bits.{bit_xor, xor_self}
use lib.Dec.{eqb, ltb}
use lib.ListN.{length, get_or}
use lib.Pow.{pow-lt}
use borrow.Author.Tests.{ltb-true, ltb-false}
use Rattle.std.specs.Prelude.{◌==◌, Option, None, Some, position}
use Rattle.std.specs.List.{position_from}
use Rattle.std.proofs.lemmas.Iterator.Adapters.{position_from-zero}
use Rattle.linear.specs.Linear.{turned, place_from}
use Rattle.linear.proofs.WrongBits.{turned_lt, turned_twice, turned_swap, image_turned, place_at, column_set, column_place, pair_set, pair_place, one_turned, two_turned}
use Rattle.rm3014.specs.Code.{code_word, data_of, columns, syndrome, place_of}
use Rattle.rm3014.specs.Verdict.{verdict_by, verdict}
use Rattle.rm3014.specs.declared.Verdict.{Verdict}
use Rattle.rm3014.specs.declared.Verdict.TheVariants.{Clean, Mended, Beyond}
use Rattle.rm3014.proofs.CodeLaws.{code_data, code_passes, place_le, columns_length, columns_separate, only_code_passes}

-- ---- the verdict by the syndrome
abbrev pub by_syndrome : ℕ → ℕ → Verdict
by_syndrome s word = verdict_by s (place_of s) word

-- where the syndrome is not 0 its place decides
abbrev pub by_place : ℕ → ℕ → Verdict
by_place p word = verdict_by 1 p word

pub place_decides : (s p word : ℕ) → verdict_by (suc s) p word ≡ by_place p word
place_decides s zero word = refl
place_decides s (suc p) word = refl

pub clean_by : (word : ℕ) → syndrome word ≡ 0 → verdict word ≡ Clean (data_of word)
clean_by word e = ap (λ (s : ℕ). by_syndrome s word) e

pub place_by : (word s p : ℕ) → syndrome word ≡ s → (s ≡ 0 → ⊥) → place_of s ≡ p → verdict word ≡ by_place p word
place_by word s p e n f = ap (λ (x : ℕ). by_syndrome x word) e ∙ go s n ∙ ap (λ (x : ℕ). by_place x word) f
  where
    go : (s : ℕ) → (s ≡ 0 → ⊥) → by_syndrome s word ≡ by_place (place_of s) word
    go zero n = absurd (n refl)
    go (suc s) n = place_decides s (place_of (suc s)) word

-- the same, as the decoder works it out: the sum and the place of it come first
pub found_clean : (word s : ℕ) → s ≡ syndrome word → s ≡ 0 → Clean (data_of word) ≡ verdict word
found_clean word s e z = sym (clean_by word (sym e ∙ z))

pub found_beyond : (word s p : ℕ) → s ≡ syndrome word → (s ≡ 0 → ⊥) → p ≡ place_of s → p ≡ 0 → Beyond (data_of word) ≡ verdict word
found_beyond word s p e n f z = sym (place_by word s 0 (sym e) n (sym f ∙ z))

shifted_one : (p : ℕ) → 1 * 2 ^ (30 - p) % 2 ^ 32 ≡ 2 ^ (30 - p)
shifted_one p = ap (λ (x : ℕ). x % 2 ^ 32) (one-mul (2 ^ (30 - p))) ∙ mod-eq_of_lt (pow-lt {i = 30 - p} {j = 32} (omega arith))

pub found_mended : (word s p : ℕ) → s ≡ syndrome word → (s ≡ 0 → ⊥) → p ≡ place_of s → (p ≡ 0 → ⊥)
    → Mended p (data_of (bit_xor word (1 * 2 ^ (30 - p) % 2 ^ 32))) ≡ verdict word
found_mended word s p e n f z = ap (λ (x : ℕ). Mended p (data_of (bit_xor word x))) (shifted_one p) ∙ given p z ∙ sym (place_by word s p (sym e) n (sym f))
  where
    given : (p : ℕ) → (p ≡ 0 → ⊥) → Mended p (data_of (turned 30 p word)) ≡ by_place p word
    given zero z = absurd (z refl)
    given (suc p) z = refl

pub mended_fits : (word s p : ℕ) → word < 2 ^ 30 → p ≡ place_of s → (p ≡ 0 → ⊥) → data_of (bit_xor word (1 * 2 ^ (30 - p) % 2 ^ 32)) < 2 ^ 16
mended_fits word s p h f z =
    let l : turned 30 p word < 2 ^ 30 = turned_lt 30 p word (omega (arith, z)) (omega (arith, f, place_le s)) h in
    let e : data_of (bit_xor word (1 * 2 ^ (30 - p) % 2 ^ 32)) ≡ turned 30 p word / 2 ^ 16 = ap (λ (x : ℕ). data_of (bit_xor word x)) (shifted_one p) in
    omega (arith, e, l)

-- ---- the search for a column
-- the place is one more than the number of columns before it, and 0 where the sum stands nowhere
abbrev pub place_at_column : Option ℕ → ℕ
place_at_column None = 0
place_at_column (Some i) = i + 1

place_found : (k s : ℕ) (cs : List ℕ) → place_at_column (position_from (λ c. c == s) k cs) ≡ place_from (k + 1) s cs
place_found k s [] = refl
place_found k s (c ∷ cs) = go (place_found (k + 1) s cs) (eqb c s)
  where
    go : place_at_column (position_from (λ c. c == s) (k + 1) cs) ≡ place_from (k + 1 + 1) s cs → (t : Bool)
        → place_at_column (cond t (Some k) (position_from (λ c. c == s) (k + 1) cs)) ≡ cond t (k + 1) (place_from (k + 1 + 1) s cs)
    go on true = refl
    go on false = on

pub place_by_column : (s : ℕ) (found : Option ℕ) → found ≡ position (λ c. c == s) columns → place_at_column found ≡ place_of s
unfolding place_of
place_by_column s found e = ap (place_at_column) (e ∙ position_from-zero (λ c. c == s) columns) ∙ place_found 0 s columns

-- ---- wrong bits
one_wrong : (word i : ℕ) → syndrome word ≡ 0 → i < 30 → syndrome (turned 30 (suc i) word) ≡ get_or columns i 0
unfolding syndrome
one_wrong word i e h =
    ap (λ (n : ℕ). syndrome (turned n (suc i) word)) (sym columns_length) ∙ one_turned columns word e i (omega (arith, columns_length))

two_wrong : (word i j : ℕ) → syndrome word ≡ 0 → i < 30 → j < 30
    → syndrome (turned 30 (suc j) (turned 30 (suc i) word)) ≡ bit_xor (get_or columns i 0) (get_or columns j 0)
unfolding syndrome
two_wrong word i j e h k =
    ap (λ (n : ℕ). syndrome (turned n (suc j) (turned n (suc i) word))) (sym columns_length)
    ∙ two_turned columns word e i j (omega (arith, columns_length)) (omega (arith, columns_length))

-- a code word is Clean, with its data
pub clean : (input : ℕ) → input < 2 ^ 14 → verdict (code_word input) ≡ Clean input
clean input h = clean_by (code_word input) (code_passes input h) ∙ ap Clean (code_data input)

-- a code word with the bit at place p wrong is Mended there, with its data
pub mended : (input p : ℕ) → input < 2 ^ 14 → 0 < p → p ≤ 30 → verdict (turned 30 p (code_word input)) ≡ Mended p input
unfolding place_of
mended input zero h k l = absurd (omega arith)
mended input (suc i) h k l =
    let n : i < length columns = omega (arith, columns_length) in
    place_by (turned 30 (suc i) (code_word input)) (get_or columns i 0) (suc i) (one_wrong (code_word input) i (code_passes input h) (omega arith))
    (column_set columns columns_separate (omega (arith, columns_length)) i n) (column_place columns columns_separate i n)
    ∙ ap (Mended (suc i)) (ap data_of (turned_twice 30 (suc i) (code_word input)) ∙ code_data input)

-- a code word with two wrong bits is Beyond, with the data bits as they were received
pub beyond : (input p q : ℕ) → input < 2 ^ 14 → 0 < p → p ≤ 30 → 0 < q → q ≤ 30 → (p ≡ q → ⊥)
    → verdict (turned 30 q (turned 30 p (code_word input))) ≡ Beyond (data_of (turned 30 q (turned 30 p (code_word input))))
unfolding place_of
beyond input zero q h a b c d n = absurd (omega arith)
beyond input (suc i) zero h a b c d n = absurd (omega arith)
beyond input (suc i) (suc j) h a b c d n = go (ltb j i) refl
  where
    ordered : (i j : ℕ) → i < 30 → j < i
        → verdict (turned 30 (suc j) (turned 30 (suc i) (code_word input))) ≡ Beyond (data_of (turned 30 (suc j) (turned 30 (suc i) (code_word input))))
    ordered i j k l =
        let n : i < length columns = omega (arith, columns_length) in
        place_by (turned 30 (suc j) (turned 30 (suc i) (code_word input))) (bit_xor (get_or columns i 0) (get_or columns j 0)) 0
        (two_wrong (code_word input) i j (code_passes input h) k (omega arith)) (pair_set columns columns_separate i j l n)
        (pair_place columns columns_separate i j l n)

    go : (t : Bool) → ltb j i ≡ t
        → verdict (turned 30 (suc j) (turned 30 (suc i) (code_word input))) ≡ Beyond (data_of (turned 30 (suc j) (turned 30 (suc i) (code_word input))))
    go true e = ordered i j (omega arith) (ltb-true j i e)
    go false e =
        let s = turned_swap 30 (suc j) (suc i) (code_word input) in
        ap verdict s ∙ ordered j i (omega arith) (omega (arith, ltb-false j i e)) ∙ ap (λ (w : ℕ). Beyond (data_of w)) (sym s)

-- ---- the other way round
-- a word is Clean only where it is the code word of the data it is given
pub only_clean : (word bits : ℕ) → word < 2 ^ 30 → verdict word ≡ Clean bits → word ≡ code_word bits
only_clean word bits h v = go (syndrome word) refl v
  where
    none : (p : ℕ) → by_place p word ≡ Clean bits → ⊥
    none zero v = let z : ◌≡◌ {A = ℕ} 0 1 = cc in omega arith
    none (suc p) v = let z : ◌≡◌ {A = ℕ} 0 1 = cc in omega arith

    go : (s : ℕ) → syndrome word ≡ s → by_syndrome s word ≡ Clean bits → word ≡ code_word bits
    go zero e v = let b : data_of word ≡ bits = cc in only_code_passes word h e ∙ ap code_word b
    go (suc s) e v = absurd (none (place_of (suc s)) (sym (place_decides s (place_of (suc s)) word) ∙ v))

-- a word is Mended at a place only where it is the code word of the data it is given with the bit at that place wrong
pub only_mended : (word p bits : ℕ) → word < 2 ^ 30 → verdict word ≡ Mended p bits → (0 < p) × (p ≤ 30) × (word ≡ turned 30 p (code_word bits))
unfolding syndrome place_of
only_mended word p bits h v = go (syndrome word) refl v
  where
    put : (s q : ℕ) → syndrome word ≡ s → place_of s ≡ q → by_place q word ≡ Mended p bits → (0 < p) × (p ≤ 30) × (word ≡ turned 30 p (code_word bits))
    put s zero e f v = let z : ◌≡◌ {A = ℕ} 0 1 = cc in absurd (omega arith)
    put s (suc q) e f v =
        let same : suc q ≡ p = cc in
        let b : data_of (turned 30 (suc q) word) ≡ bits = cc in
        let at = place_at 1 s columns q (omega arith) f in
        let i = at.0 in
        let k : suc i ≡ suc q = omega (arith, at.2) in
        let l : suc q ≤ 30 = omega (arith, at.1, columns_length) in
        let zeroed : syndrome (turned 30 (suc q) word) ≡ 0 =
        ap (λ (m : ℕ). syndrome (turned 30 m word)) (sym k) ∙ ap (λ (n : ℕ). syndrome (turned n (suc i) word)) (sym columns_length)
        ∙ image_turned columns i word at.1 ∙ ap₂ bit_xor e at.3 ∙ xor_self s in
        let r = only_code_passes (turned 30 (suc q) word) (turned_lt 30 (suc q) word (omega arith) l h) zeroed ∙ ap code_word b in (
          omega (arith, same),
          omega (arith, same, l),
          sym (turned_twice 30 (suc q) word) ∙ ap₂ (turned 30) same r,
        )

    go : (s : ℕ) → syndrome word ≡ s → by_syndrome s word ≡ Mended p bits → (0 < p) × (p ≤ 30) × (word ≡ turned 30 p (code_word bits))
    go zero e v = let z : ◌≡◌ {A = ℕ} 0 1 = cc in absurd (omega arith)
    go (suc s) e v = put (suc s) (place_of (suc s)) e refl (sym (place_decides s (place_of (suc s)) word) ∙ v)
