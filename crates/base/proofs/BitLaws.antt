-- Laws of bits: the test of a list's entries, lists of bits, symbols.
-- Assumes nothing.
use mathlib.Core.Path.{◌≡◌, refl, sym, ap, ap₂, ◌∙◌}
use mathlib.Core.List.{List, [], ◌∷◌, ◌++◌}
use mathlib.Core.Bool.{Bool, true, false, cond}
use Prim.Native.Nat.{ℕ, zero, suc, ◌+◌, ◌-◌, ◌≤◌, ◌<◌}
use native.Mathlib.Omega.{arith}
use native.Mathlib.Numerals.{add-one}
use lib.Bits.{bit_or, or_lt, or_add_and, and_le_l, and_le_r}
use lib.Dec.{ltb}
use borrow.Author.Tests.{ltb-true, ltb-false, lt-ltb, le-ltb}
use lib.ListN.{length, take, get_or}
use Rattle.base.specs.Bits.{both, Bits, bits_only, disagrees, known}
use Rattle.base.specs.Places.{tabulate}

-- ---- one entry
-- what holds of 0 and of 1 holds of every bit
pub bit_cases : (P : ℕ → Type 0) → P 0 → P 1 → (b : ℕ) → b < 2 → P b
bit_cases P p q zero h = p
bit_cases P p q (suc zero) h = q
bit_cases P p q (suc (suc b)) h = absurd (omega arith)

pub two_bits : (P : ℕ → ℕ → Type 0) → P 0 0 → P 0 1 → P 1 0 → P 1 1 → (a b : ℕ) → a < 2 → b < 2 → P a b
two_bits P p q r s a b h k = bit_cases (λ x. P x b) (bit_cases (P 0) p q b k) (bit_cases (P 1) r s b k) a h

no_true : {A : Type 0} → false ≡ true → A
no_true q = absurd (omega (arith, ap {B = ℕ} (λ (t : Bool). cond t 1 0) q))

both_true : (a b : Bool) → both a b ≡ true → (a ≡ true) × (b ≡ true)
both_true true b e = (refl, e)
both_true false b e = no_true e

-- the bitwise or of two entries is a bit where both are
pub is_bit_or : (a b : ℕ) → ltb (bit_or a b) 2 ≡ both (ltb a 2) (ltb b 2)
is_bit_or a b = go (ltb a 2) refl (ltb b 2) refl
  where
    go : (s : Bool) → ltb a 2 ≡ s → (t : Bool) → ltb b 2 ≡ t → ltb (bit_or a b) 2 ≡ both (ltb a 2) (ltb b 2)
    go true e true f =
        lt-ltb (bit_or a b) 2 (or_lt 1 a b (ltb-true a 2 e) (ltb-true b 2 f))
        ∙ sym (ap₂ both (lt-ltb a 2 (ltb-true a 2 e)) (lt-ltb b 2 (ltb-true b 2 f)))
    go true e false f =
        le-ltb (bit_or a b) 2 (omega (arith, or_add_and a b, and_le_l a b, ltb-false b 2 f))
        ∙ sym (ap₂ both (lt-ltb a 2 (ltb-true a 2 e)) (le-ltb b 2 (ltb-false b 2 f)))
    go false e t f =
        le-ltb (bit_or a b) 2 (omega (arith, or_add_and a b, and_le_r a b, ltb-false a 2 e))
        ∙ sym (ap (λ (x : Bool). both x (ltb b 2)) (le-ltb a 2 (ltb-false a 2 e)))

-- ---- a loop that takes entry i in
pub bits_only_more : (i : ℕ) (s : List ℕ) → i < length s → both (bits_only i s) (ltb (get_or s i 0) 2) ≡ bits_only (i + 1) s
bits_only_more i s h = rw add-one (more i s h)
  where
    swapped : (a b : Bool) → both a b ≡ both b a
    swapped true true = refl
    swapped true false = refl
    swapped false true = refl
    swapped false false = refl

    grouped : (a b c : Bool) → both (both a b) c ≡ both a (both b c)
    grouped true b c = refl
    grouped false b c = refl

    more : (i : ℕ) (s : List ℕ) → i < length s → both (bits_only i s) (ltb (get_or s i 0) 2) ≡ bits_only (suc i) s
    more i [] h = absurd (omega arith)
    more zero (a ∷ s) h = swapped true (ltb a 2)
    more (suc i) (a ∷ s) h = grouped (ltb a 2) (bits_only i s) (ltb (get_or s i 0) 2) ∙ ap (both (ltb a 2)) (more i s (omega arith))

-- each of the entries is a bit where the test holds
pub bits_only_at : (n i : ℕ) (s : List ℕ) → bits_only n s ≡ true → i < n → i < length s → get_or s i 0 < 2
bits_only_at zero i s e h k = absurd (omega arith)
bits_only_at (suc n) i [] e h k = absurd (omega arith)
bits_only_at (suc n) zero (a ∷ s) e h k = ltb-true a 2 (both_true (ltb a 2) (bits_only n s) e).0
bits_only_at (suc n) (suc i) (a ∷ s) e h k = bits_only_at n i s (both_true (ltb a 2) (bits_only n s) e).1 (omega arith) (omega arith)

pub bits_only_bits : (n : ℕ) (s : List ℕ) → bits_only n s ≡ true → Bits (take n s)
bits_only_bits zero s e = tt
bits_only_bits (suc n) [] e = tt
bits_only_bits (suc n) (a ∷ s) e =
    let p = both_true (ltb a 2) (bits_only n s) e in
    (ltb-true a 2 p.0, bits_only_bits n s p.1)

-- a list of bits passes the test
pub bits_only_yes : (n : ℕ) (s : List ℕ) → Bits s → bits_only n s ≡ true
bits_only_yes zero s b = refl
bits_only_yes (suc n) [] b = refl
bits_only_yes (suc n) (a ∷ s) b = ap₂ both (lt-ltb a 2 b.0) (bits_only_yes n s b.1)

-- ---- lists of bits
pub bits_append : (a b : List ℕ) → Bits a → Bits b → Bits (a ++ b)
bits_append [] b p q = q
bits_append (x ∷ a) b p q = (p.0, bits_append a b p.1 q)

pub bits_at : (w : List ℕ) → Bits w → (i : ℕ) → get_or w i 0 < 2
bits_at [] b i = omega arith
bits_at (x ∷ w) b zero = b.0
bits_at (x ∷ w) b (suc i) = bits_at w b.1 i

pub bits_of : (w : List ℕ) → ((i : ℕ) → i < length w → get_or w i 0 < 2) → Bits w
bits_of [] h = tt
bits_of (x ∷ w) h = (h 0 (omega arith), bits_of w (λ i k. h (suc i) (omega arith)))

pub bits_tabulate : (f : ℕ → ℕ) (n : ℕ) → ((i : ℕ) → i < n → f i < 2) → Bits (tabulate f n)
unfolding tabulate
bits_tabulate f zero h = tt
bits_tabulate f (suc n) h = bits_append (tabulate f n) (f n ∷ []) (bits_tabulate f n (λ i k. h i (omega arith))) (h n (omega arith), tt)

-- ---- symbols
pub disagrees_le : (r y : ℕ) → y < 2 → disagrees r y ≤ known r
disagrees_le zero y h = omega arith
disagrees_le (suc zero) zero h = omega arith
disagrees_le (suc zero) (suc y) h = omega arith
disagrees_le (suc (suc r)) y h = omega arith

pub known_le : (r : ℕ) → known r ≤ 1
known_le zero = omega arith
known_le (suc zero) = omega arith
known_le (suc (suc r)) = omega arith

-- a symbol disagrees with one of the two bits where it is known
pub disagrees_other : (r y : ℕ) → y < 2 → disagrees r y + disagrees r (1 - y) ≡ known r
disagrees_other zero y h = omega arith
disagrees_other (suc zero) zero h = refl
disagrees_other (suc zero) (suc zero) h = refl
disagrees_other (suc zero) (suc (suc y)) h = absurd (omega arith)
disagrees_other (suc (suc r)) y h = refl

-- of a slice that ends where the test does
pub bits_only_whole : (n : ℕ) (s : List ℕ) → n ≤ length s → bits_only (length (take n s)) (take n s) ≡ bits_only n s
bits_only_whole zero s h = refl
bits_only_whole (suc n) [] h = absurd (omega arith)
bits_only_whole (suc n) (a ∷ s) h = ap (both (ltb a 2)) (bits_only_whole n s (omega arith))
