-- The pass over the symbols: before the first step, and one step more.
-- Assumes nothing.
use mathlib.Core.Path.{◌≡◌, refl, ap, ◌∙◌, subst, subst⁻¹}
use mathlib.Core.List.{List}
use Prim.Native.Nat.{ℕ, zero, suc, ◌+◌, ◌*◌, ◌/◌, ◌%◌, ◌^◌, ◌≤◌, ◌<◌}
use native.Mathlib.Nat.{mul-suc, mul-zero, mul-le-mul_left}
use native.Mathlib.Omega.{arith}
use native.Mathlib.Numerals.{add-one}
use borrow.Author.Count.{below_more}
use lib.IntN.{ℤ, pos}
use lib.ListN.{length, get_or, take, drop, set, replicate, length-set, length-take, get_or-replicate}
use lib.Seq.{get_or-set_same, get_or-set_other}
use Rattle.base.specs.Bits.{disagrees, known}
use Rattle.base.proofs.BitLaws.{known_le}
use Rattle.trellis.specs.Nearest.{total}
use Rattle.trellis.specs.Walk.{before, branch}
use Rattle.trellis.specs.Trellis.{metric, choice}
use Rattle.trellis.proofs.Paths.{lesser_left}
use Rattle.viterbi.specs.private.Scores.{Holds, Marks, Stands, Small, mirrored, earlier, Table, told, branch_of, first_way, second_way, better, oldest, Turned, handicap, received, Forward}
use Rattle.viterbi.proofs.Signed.{mag_of}
use Rattle.viterbi.proofs.States.{mirrored_earlier, mirrored_handicap}
use Rattle.viterbi.proofs.Windows.{branch_stands, branch_other}
use Rattle.viterbi.proofs.Ways.{way_stands}
use Rattle.viterbi.proofs.Counts.{total_add, total_le}
use Rattle.viterbi.proofs.Refusals.{symbols_le}

-- ---- places
pub step_room : (k i n l : ℕ) → i < n → k * n ≤ l → k * i + k ≤ l
step_room k i n l h r = omega (arith, mul-suc k i, mul-le-mul_left k h)

module _ (k : ℕ) (t : List (List ℤ)) (table : Table k t) (src : List ℕ) where
  -- ---- scores are small
  abbrev knowns : ℕ → ℕ
  knowns i = total known (take (k * i) src)

  knowns_more : (i : ℕ) → knowns (suc i) ≡ knowns i + total known (take k (drop (k * i) src))
  knowns_more i =
      let e : k * suc i ≡ k * i + k = omega (arith, mul-suc k i) in
      ap (λ (j : ℕ). total known (take j src)) e ∙ total_add known src (k * i) k

  pub knowns_le : (i : ℕ) → i ≤ 864 → total known (take (k * i) src) ≤ 3456
  knowns_le i h = omega (arith, total_le known (take (k * i) src) known_le, length-take (k * i) src, symbols_le k i table.most h)

  handicap_le : (s : ℕ) → handicap s ≤ handicap 1
  handicap_le zero = omega arith
  handicap_le (suc s) = omega arith

  metric_le : (i s : ℕ) → s < 16 → k * i ≤ length src → metric handicap (received k t src i) (mirrored s) ≤ handicap 1 + knowns i
  metric_le zero s h l = omega (arith, handicap_le (mirrored s))
  metric_le (suc i) s h l =
      omega (
        arith,
        mul-suc k i,
        knowns_more i,
        metric_le i (earlier 0 s) (omega arith) (omega (arith, mul-suc k i)),
        ap (metric handicap (received k t src i)) (mirrored_earlier 0 s (omega arith) h),
        branch_other t src (k * i) s h k table (omega (arith, mul-suc k i)),
        lesser_left (metric handicap (received k t src i) (before 0 (mirrored s)) + branch disagrees (told k t) k src i (2 * mirrored s + 0))
            (metric handicap (received k t src i) (before 1 (mirrored s)) + branch disagrees (told k t) k src i (2 * mirrored s + 1)),
      )

  pub scores_small : (i : ℕ) (m : List ℤ) (was now : List ℕ) → i ≤ 864 → k * i ≤ length src → Forward k t src i m was now → Small 20000 m
  scores_small i m was now h l f s hs =
      mag_of (get_or m s (pos 0)) 20000 (2 * metric handicap (received k t src i) (mirrored s)) (knowns i) (f.scores s hs)
      (omega (arith, metric_le i s hs l, knowns_le i h)) (omega (arith, knowns_le i h))

  -- ---- before the first step
  first_scores : (s : ℕ) → s < 16 → Stands (get_or (set (replicate 16 (pos (2 * handicap 1))) 0 (pos 0)) s (pos 0)) (handicap s) (knowns 0)
  first_scores zero h = omega (arith, ap (λ (j : ℕ). total known (take j src)) (mul-zero k))
  first_scores (suc s) h =
      subst⁻¹ (λ (z : ℤ). Stands z (handicap 1) (knowns 0)) (get_or-replicate 15 s (pos (2 * handicap 1)) (pos 0) (omega arith))
      (omega (arith, ap (λ (j : ℕ). total known (take j src)) (mul-zero k)))

  pub forward_none : (was : List ℕ) → Forward k t src 0 (set (replicate 16 (pos (2 * handicap 1))) 0 (pos 0)) was was
  forward_none was = record { scores = λ s h. rw (mirrored_handicap s h) (first_scores s h); choices = λ i h. absurd (omega arith); long = refl; rest = λ i h. refl }

  -- ---- one step more
  module _ (i : ℕ) (room : k * i + k ≤ length src) (m b new : List ℤ) (was now : List ℕ) (taken : ℕ) (f : Forward k t src i m was now)
      (br : Holds (branch_of t k src (k * i)) b) (tu : Turned m b new taken) where
    earlier_stands : (x s : ℕ) → x < 2 → s < 16 → Stands (get_or m (earlier x s) (pos 0)) (metric handicap (received k t src i) (before x (mirrored s))) (knowns i)
    earlier_stands x s l h =
        subst (λ (y : ℕ). Stands (get_or m (earlier x s) (pos 0)) (metric handicap (received k t src i) y) (knowns i)) (mirrored_earlier x s l h)
        (f.scores (earlier x s) (omega arith))

    at_state : (s : ℕ) → s < 16
        → Stands (better (first_way m b s) (second_way m b s)) (metric handicap (received k t src (suc i)) (mirrored s)) (knowns (suc i))
        × (oldest (first_way m b s) (second_way m b s) ≡ choice handicap (branch disagrees (told k t) k src i) (received k t src i) (mirrored s))
    at_state s h =
        rw (knowns_more i)
        (way_stands (get_or m (earlier 0 s) (pos 0)) (get_or m (earlier 1 s) (pos 0)) (get_or b s (pos 0))
        (metric handicap (received k t src i) (before 0 (mirrored s))) (metric handicap (received k t src i) (before 1 (mirrored s)))
        (branch disagrees (told k t) k src i (2 * mirrored s + 0)) (branch disagrees (told k t) k src i (2 * mirrored s + 1))
        (knowns i) (total known (take k (drop (k * i) src))) (earlier_stands 0 s (omega arith) h) (earlier_stands 1 s (omega arith) h)
        (subst⁻¹ (λ (z : ℤ). Stands z (branch disagrees (told k t) k src i (2 * mirrored s + 0)) (total known (take k (drop (k * i) src)))) (br s h)
        (branch_stands t src (k * i) s h k table room))
        (branch_other t src (k * i) s h k table room))

    pub forward_more : i < length now → Forward k t src (i + 1) new was (set now i taken)
    forward_more hi =
        subst⁻¹ (λ (j : ℕ). Forward k t src j new was (set now i taken)) (add-one i)
        (record {
          scores = λ s h. subst⁻¹ (λ (z : ℤ). Stands z (metric handicap (received k t src (suc i)) (mirrored s)) (knowns (suc i))) (tu.scores s h) (at_state s h).0;
          choices = λ j l. below_more (λ (j : ℕ). Marks (λ s. choice handicap (branch disagrees (told k t) k src j) (received k t src j) (mirrored s)) (get_or (set now i taken) j 0)) i
              (λ j l s h. ap (λ (x : ℕ). x / 2 ^ s % 2) (get_or-set_other now i j taken 0 (omega arith)) ∙ f.choices j l s h)
              (λ s h. ap (λ (x : ℕ). x / 2 ^ s % 2) (get_or-set_same now i taken 0 hi) ∙ tu.bits s h ∙ (at_state s h).1)
              j (omega arith);
          long = length-set now i taken ∙ f.long;
          rest = λ j h. get_or-set_other now i j taken 0 (omega arith) ∙ f.rest j (omega arith);
        })
