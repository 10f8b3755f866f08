-- Sums over the symbols, and the cost that a score stands for.
-- Assumes nothing.
use mathlib.Core.Path.{◌≡◌, refl, ap, ap₂, ◌∙◌, subst⁻¹}
use mathlib.Core.List.{List, [], ◌∷◌, ◌++◌}
use Prim.Native.Nat.{ℕ, zero, suc, ◌+◌, ◌/◌, ◌-◌, ◌≤◌, ◌<◌}
use native.Mathlib.Omega.{arith}
use native.Mathlib.Numerals.{add-one}
use lib.Dec.{T}
use lib.IntN.{ℤ, pos, ◌+ℤ◌, nat_abs}
use lib.Signed.{mag, non_neg}
use lib.ListN.{length, get_or, take, drop}
use lib.Seq.{take-suc, take-add}
use mir.Syntax.{w16, w64}
use mir.Val.{SFits, Fits, to_z, of_z}
use mir.Facts.{to_z-of_z, to_z_pos}
use Rattle.base.specs.Bits.{disagrees, known}
use Rattle.base.proofs.BitLaws.{disagrees_le}
use Rattle.trellis.specs.Nearest.{total}
use Rattle.trellis.proofs.Encoding.{Each}
use Rattle.viterbi.specs.private.Scores.{up, down, Stands}
use Rattle.viterbi.proofs.Signed.{add_parts, mag_up, same_parts}

-- ---- sums
pub total_append : (f : ℕ → ℕ) (r s : List ℕ) → total f (r ++ s) ≡ total f r + total f s
total_append f [] s = omega arith
total_append f (x ∷ r) s = omega (arith, total_append f r s)

pub total_add : (f : ℕ → ℕ) (r : List ℕ) (n k : ℕ) → total f (take (n + k) r) ≡ total f (take n r) + total f (take k (drop n r))
total_add f r n k = ap (total f) (take-add n k r) ∙ total_append f (take n r) (take k (drop n r))

pub total_more : (f : ℕ → ℕ) (r : List ℕ) (n : ℕ) → n < length r → total f (take (n + 1) r) ≡ total f (take n r) + f (get_or r n 0)
total_more f r n h =
    ap (λ (i : ℕ). total f (take i r)) (add-one n) ∙ ap (total f) (take-suc r n 0 h)
    ∙ total_append f (take n r) (get_or r n 0 ∷ []) ∙ omega arith

pub total_le : (f : ℕ → ℕ) (r : List ℕ) → ((x : ℕ) → f x ≤ 1) → total f r ≤ length r
total_le f [] h = omega arith
total_le f (x ∷ r) h = omega (arith, h x, total_le f r h)

pub known_yes : (r : ℕ) → r < 2 → known r ≡ 1
known_yes zero h = refl
known_yes (suc zero) h = refl
known_yes (suc (suc r)) h = absurd (omega arith)

pub known_no : (r : ℕ) → 2 ≤ r → known r ≡ 0
known_no zero h = absurd (omega arith)
known_no (suc zero) h = absurd (omega arith)
known_no (suc (suc r)) h = refl

-- one symbol more, a bit or an erasure
pub known_more : (r : List ℕ) (n : ℕ) → n < length r → get_or r n 0 < 2 → total known (take (n + 1) r) ≡ total known (take n r) + 1
known_more r n h b = omega (arith, total_more known r n h, known_yes (get_or r n 0) b)

pub erased_more : (r : List ℕ) (n : ℕ) → n < length r → 2 ≤ get_or r n 0 → total known (take (n + 1) r) ≡ total known (take n r)
erased_more r n h b = omega (arith, total_more known r n h, known_no (get_or r n 0) b)

pub each_known : (r : List ℕ) → Each (λ a. (b : ℕ) → b < 2 → disagrees a b ≤ known a) r
each_known [] = tt
each_known (a ∷ r) = (disagrees_le a, each_known r)

-- ---- half the sum of a score and the known symbols
module _ (z : ℤ) (k : ℕ) (fz : SFits w16 z) (hz : mag z < 20000) (hk : k ≤ 3456) (hd : down z ≤ k) where
  sum_is : z +ℤ pos k ≡ pos (up z + k - down z)
  sum_is = same_parts (z +ℤ pos k) (pos (up z + k - down z)) (up z + k) (down z) (omega (arith, add_parts z (pos k))) (omega arith)

  sum_fits : SFits w16 (z +ℤ pos k)
  sum_fits = subst⁻¹ (SFits w16) sum_is (record { sfits = omega (arith, mag_up z 20000 hz) })

  sum_reads : to_z w16 (of_z w16 z) +ℤ to_z w16 k ≡ z +ℤ pos k
  sum_reads = ap₂ ◌+ℤ◌ (to_z-of_z fz) (to_z_pos w16 (omega arith))

  pub twice_fits : SFits w16 (to_z w16 (of_z w16 z) +ℤ to_z w16 k)
  twice_fits = subst⁻¹ (SFits w16) sum_reads sum_fits

  twice_is : to_z w16 (of_z w16 (to_z w16 (of_z w16 z) +ℤ to_z w16 k)) ≡ pos (up z + k - down z)
  twice_is = to_z-of_z twice_fits ∙ sum_reads ∙ sum_is

  pub twice_counts : T (non_neg (to_z w16 (of_z w16 (to_z w16 (of_z w16 z) +ℤ to_z w16 k)))) × Fits w64 (nat_abs (to_z w16 (of_z w16 (to_z w16 (of_z w16 z) +ℤ to_z w16 k))))
  twice_counts = subst⁻¹ (λ (y : ℤ). T (non_neg y) × Fits w64 (nat_abs y)) twice_is (tt, record { fits = omega (arith, mag_up z 20000 hz) })

  pub cost_is : (n : ℕ) → Stands z n k → nat_abs (to_z w16 (of_z w16 (to_z w16 (of_z w16 z) +ℤ to_z w16 k))) / 2 ≡ n
  cost_is n s = ap (λ (y : ℤ). nat_abs y / 2) twice_is ∙ omega arith
