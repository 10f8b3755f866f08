-- Sums of entries, and the check put together from its parts.
-- Assumes nothing.
use mathlib.Core.Path.{◌≡◌, sym, ap, ap₂, subst, ◌∙◌}
use mathlib.Core.List.{List, [], ◌∷◌, ◌++◌, foldr}
use Prim.Native.Nat.{ℕ, ◌+◌, ◌-◌, ◌%◌, ◌≤◌}
use native.Mathlib.Omega.{arith}
use lib.Bits.{bit_xor}
use lib.ListN.{length, take, get_or}
use lib.Seq.{length-take-le, get_or-take}
use Rattle.base.specs.Bits.{Bits}
use Rattle.base.specs.Places.{tabulate}
use Rattle.base.proofs.Lists.{tabulate_more, tabulate_of, tabulate_same}
use Rattle.base.proofs.BitLaws.{bits_at}
use Rattle.base.proofs.Xor.{xor_odd}
use Rattle.speech_crc.specs.Check.{data_bits, dividend, remainder, speech_check}
use Rattle.speech_crc.proofs.Dividend.{dividend_bits}
use Rattle.speech_crc.proofs.Shape.{divided_bits}

total_snoc : (w : List ℕ) (x : ℕ) → foldr ◌+◌ 0 (w ++ (x ∷ [])) ≡ foldr ◌+◌ 0 w + x
total_snoc [] x = omega arith
total_snoc (b ∷ w) x = omega (arith, total_snoc w x)

-- a turn of the loop over the entries
pub parity_more : (s : List ℕ) (i sum : ℕ) → sum % 2 ≡ foldr ◌+◌ 0 (tabulate (λ k. get_or s k 0 % 2) i) % 2
    → bit_xor sum (get_or s i 0) % 2 ≡ foldr ◌+◌ 0 (tabulate (λ k. get_or s k 0 % 2) (i + 1)) % 2
parity_more s i sum e =
    xor_odd sum (get_or s i 0)
    ∙ further (get_or s i 0) (foldr ◌+◌ 0 (tabulate low i)) (foldr ◌+◌ 0 (tabulate low (i + 1))) e (ap (foldr ◌+◌ 0) (tabulate_more low i) ∙ total_snoc (tabulate low i) (low i))
  where
    low : ℕ → ℕ
    low k = get_or s k 0 % 2

    further : (x before after : ℕ) → sum % 2 ≡ before % 2 → after ≡ before + x % 2 → (sum + x) % 2 ≡ after % 2
    further x before after p q = omega arith

-- the first 60 entries' lowest bits are the data bits
pub data_taken : (src : List ℕ) → 60 ≤ length src → tabulate (λ i. get_or (take 60 src) i 0 % 2) (length (take 60 src)) ≡ data_bits src
data_taken src h =
    ap (tabulate (λ i. get_or (take 60 src) i 0 % 2)) (length-take-le 60 src h)
    ∙ tabulate_same (λ i. get_or (take 60 src) i 0 % 2) (λ i. get_or src i 0 % 2) 60 (λ i l. ap (λ (n : ℕ). n % 2) (get_or-take 60 src i 0 l))

-- ---- the check from the remainder
module _ (src left : List ℕ) (long : length left ≡ 7) (is : left ≡ remainder (data_bits src)) where
  -- the remainder's entries are their own lowest bits
  left_sum : foldr ◌+◌ 0 (tabulate (λ i. get_or left i 0 % 2) 7) ≡ foldr ◌+◌ 0 (remainder (data_bits src))
  left_sum =
      let bits : Bits left = subst Bits (sym is) (divided_bits 60 (dividend (data_bits src)) (dividend_bits src)) in
      ap (foldr ◌+◌ 0) (sym (tabulate_of left (λ i. get_or left i 0 % 2) 7 long (λ i h. omega (arith, bits_at left bits i)))) ∙ ap (foldr ◌+◌ 0) is

  pub check_is : (a b : ℕ) → a ≡ foldr ◌+◌ 0 (tabulate (λ i. get_or src i 0 % 2) 60) % 2 → b ≡ foldr ◌+◌ 0 (tabulate (λ i. get_or left i 0 % 2) 7) % 2
      → tabulate (λ i. get_or left (6 - i) 0) 7 ++ ((a + b) % 2 ∷ []) ≡ speech_check src
  unfolding speech_check
  check_is a b p q =
      let s : (a + b) % 2 ≡ (foldr ◌+◌ 0 (data_bits src) + foldr ◌+◌ 0 (remainder (data_bits src))) % 2 = omega (arith, left_sum) in
      ap₂ (λ (l : List ℕ) (x : ℕ). tabulate (λ i. get_or l (6 - i) 0) 7 ++ (x ∷ [])) is s
