-- A decoder that begins the other states with a score above what four steps can cost takes the walk that Walk.antt is about.
-- Assumes nothing.
use mathlib.Core.Path.{◌≡◌, refl, sym, ap, ◌∙◌}
use mathlib.Core.List.{List, [], ◌∷◌}
use mathlib.Core.Option.{Option, none, some, IsSome}
use mathlib.Core.Bool.{Bool, cond}
use Prim.Native.Nat.{ℕ, ◌+◌, ◌*◌, ◌/◌, ◌<◌}
use native.Mathlib.Omega.{arith}
use lib.ListN.{length}
use Rattle.trellis.specs.Walk.{before, bits_back, ends_in, score, best_way}
use Rattle.trellis.specs.Trellis.{metric, choice, trace, begin, Bounded}
use Rattle.trellis.proofs.Walk.{stays, best_way_lt, zero_scored, walk_ends, Beside, same_way, beside}

module _ (start : ℕ → ℕ) (most : ℕ) (zeroth : start 0 ≡ 0) (others : (s : ℕ) → 0 < s → 4 * most < start s) where
  -- the decoder's score beside that of the walk
  at : (cs : List (ℕ → ℕ)) (s : ℕ) → s < 16 → Bounded most cs → Beside most (length cs) s (score cs s) (metric start cs s)
  at = beside start most zeroth others

  same_choice : (c : ℕ → ℕ) (cs : List (ℕ → ℕ)) (s : ℕ) → s < 16 → Bounded most (c ∷ cs) → IsSome (score (c ∷ cs) s) → best_way c cs s ≡ choice start c cs s
  same_choice c cs s h k r =
      ap (λ (t : Bool). cond t 1 0)
      (same_way most (length cs) (before 0 s) (before 1 s) (metric start cs (before 0 s)) (metric start cs (before 1 s)) (c (2 * s + 0)) (c (2 * s + 1))
      (k.0 (2 * s + 0) (omega arith)) (k.0 (2 * s + 1) (omega arith)) (score cs (before 0 s)) (score cs (before 1 s))
      (at cs (before 0 s) (omega arith) k.1) (at cs (before 1 s) (omega arith) k.1) r)

  -- the same walk: its bits and its end
  same_walk : (cs : List (ℕ → ℕ)) (s : ℕ) → s < 16 → Bounded most cs → IsSome (score cs s)
      → (bits_back best_way cs s ≡ trace start cs s) × (ends_in best_way cs s ≡ begin start cs s)
  same_walk [] s h k r = (refl, refl)
  same_walk (c ∷ cs) s h k r =
      let same = same_walk cs (before (best_way c cs s) s) (best_way_lt c cs s) k.1 (stays c cs s r) in
      let way = same_choice c cs s h k r in (
        ap (λ (l : List ℕ). s / 8 ∷ l) (same.0 ∙ ap (λ (x : ℕ). trace start cs (before x s)) way),
        same.1 ∙ ap (λ (x : ℕ). begin start cs (before x s)) way,
      )

  pub starts_at_zero : (cs : List (ℕ → ℕ)) → Bounded most cs → begin start cs 0 ≡ 0
  starts_at_zero cs k = sym (same_walk cs 0 (omega arith) k (zero_scored cs)).1 ∙ walk_ends cs

  pub walk_traced : (cs : List (ℕ → ℕ)) → Bounded most cs → bits_back best_way cs 0 ≡ trace start cs 0
  walk_traced cs k = (same_walk cs 0 (omega arith) k (zero_scored cs)).0

  pub score_kept : (cs : List (ℕ → ℕ)) → Bounded most cs → score cs 0 ≡ some (metric start cs 0)
  score_kept cs k = go (score cs 0) (zero_scored cs) (at cs 0 (omega arith) k)
    where
      go : (a : Option ℕ) → IsSome a → Beside most (length cs) 0 a (metric start cs 0) → a ≡ some (metric start cs 0)
      go none r b = absurd r
      go (some x) r b = ap some b.0
