-- The walk back from state 0 ends in state 0: after four steps every state has been reached from state 0. Beside it stand the scores of a decoder that
-- begins the other states with more than what four steps can cost.
-- Assumes nothing.
use mathlib.Core.Path.{◌≡◌, refl, sym}
use mathlib.Core.List.{List, [], ◌∷◌}
use mathlib.Core.Option.{Option, none, some, IsSome}
use mathlib.Core.Bool.{Bool, true, false, cond}
use Prim.Native.Nat.{ℕ, zero, suc, ◌+◌, ◌*◌, ◌%◌, ◌≤◌, ◌<◌}
use native.Mathlib.Omega.{arith}
use lib.Dec.{ltb}
use lib.ListN.{length}
use borrow.Author.Tests.{le-ltb, lt-ltb}
use Rattle.trellis.specs.Walk.{before, ends_in, plus, second, best, score, way, best_way}
use Rattle.trellis.specs.Trellis.{lesser, metric, Bounded}

-- ---- the walk stays where there is a score
-- if the better of two ways has a score, so has the state it comes from
from_scored : (a b : Option ℕ) (c d : ℕ) → IsSome (best (plus a c) (plus b d)) → IsSome (cond (second (plus a c) (plus b d)) b a)
from_scored none none c d h = h
from_scored none (some y) c d h = tt
from_scored (some x) none c d h = tt
from_scored (some x) (some y) c d h = go (ltb (y + d) (x + c))
  where
    go : (t : Bool) → IsSome (cond t (some y) (some x))
    go true = tt
    go false = tt

state_before : (cs : List (ℕ → ℕ)) (s : ℕ) (t : Bool) → IsSome (cond t (score cs (before 1 s)) (score cs (before 0 s))) → IsSome (score cs (before (cond t 1 0) s))
state_before cs s true h = h
state_before cs s false h = h

pub stays : (c : ℕ → ℕ) (cs : List (ℕ → ℕ)) (s : ℕ) → IsSome (score (c ∷ cs) s) → IsSome (score cs (before (best_way c cs s) s))
stays c cs s h =
    state_before cs s (second (way c cs s 0) (way c cs s 1)) (from_scored (score cs (before 0 s)) (score cs (before 1 s)) (c (2 * s + 0)) (c (2 * s + 1)) h)

pub best_way_lt : (c : ℕ → ℕ) (cs : List (ℕ → ℕ)) (s : ℕ) → before (best_way c cs s) s < 16
best_way_lt c cs s = go (second (way c cs s 0) (way c cs s 1))
  where
    go : (t : Bool) → before (cond t 1 0) s < 16
    go true = omega arith
    go false = omega arith

-- one of two ways with a score is enough
pub first_scored : (a b : Option ℕ) (c d : ℕ) → IsSome a → IsSome (best (plus a c) (plus b d))
first_scored none b c d h = absurd h
first_scored (some x) none c d h = tt
first_scored (some x) (some y) c d h = go (ltb (y + d) (x + c))
  where
    go : (t : Bool) → IsSome (cond t (some (y + d)) (some (x + c)))
    go true = tt
    go false = tt

-- the word of zeros leads to state 0
pub zero_scored : (cs : List (ℕ → ℕ)) → IsSome (score cs 0)
zero_scored [] = tt
zero_scored (c ∷ cs) = first_scored (score cs 0) (score cs 1) (c 0) (c 1) (zero_scored cs)

ends_zero : (cs : List (ℕ → ℕ)) (s : ℕ) → IsSome (score cs s) → ends_in best_way cs s ≡ 0
ends_zero [] zero h = refl
ends_zero [] (suc s) h = absurd h
ends_zero (c ∷ cs) s h = ends_zero cs (before (best_way c cs s) s) (stays c cs s h)

-- whatever the steps cost
pub walk_ends : (cs : List (ℕ → ℕ)) → ends_in best_way cs 0 ≡ 0
walk_ends cs = ends_zero cs 0 (zero_scored cs)

-- ---- scores for all states
-- what n branches can cost
abbrev up_to : ℕ → ℕ → ℕ
up_to most zero = 0
up_to most (suc n) = most + up_to most n

-- after n steps state s still has a bit that is older than the first of them
abbrev Stray : ℕ → ℕ → Type 0
Stray zero s = 0 < s
Stray (suc zero) s = 0 < s % 8
Stray (suc (suc zero)) s = 0 < s % 4
Stray (suc (suc (suc zero))) s = 0 < s % 2
Stray (suc (suc (suc (suc n)))) s = ⊥

-- so there is a step more within four
stray_few : (n s most : ℕ) → Stray n s → most + up_to most n ≤ 4 * most
stray_few zero s most h = omega arith
stray_few (suc zero) s most h = omega arith
stray_few (suc (suc zero)) s most h = omega arith
stray_few (suc (suc (suc zero))) s most h = omega arith
stray_few (suc (suc (suc (suc n)))) s most h = absurd h

stray_on : (n s : ℕ) → Stray n (before 0 s) → Stray (suc n) s
stray_on zero s h = omega arith
stray_on (suc zero) s h = omega arith
stray_on (suc (suc zero)) s h = omega arith
stray_on (suc (suc (suc zero))) s h = omega arith
stray_on (suc (suc (suc (suc n)))) s h = absurd h

module _ (most : ℕ) where
  -- a score y among scores for all states, beside the score of Walk.antt after n steps in state s
  abbrev pub Beside : ℕ → ℕ → Option ℕ → ℕ → Type 0
  Beside n s none y = Stray n s × (4 * most < y)
  Beside n s (some x) y = (x ≡ y) × (x ≤ up_to most n)

  -- two ways into a state, by branches of the costs c and d
  module _ (n p q : ℕ) (y z c d : ℕ) (hc : c ≤ most) (hd : d ≤ most) where
    -- where one of them has a score, the same one is taken
    pub same_way : (a b : Option ℕ) → Beside n p a y → Beside n q b z → IsSome (best (plus a c) (plus b d)) → second (plus a c) (plus b d) ≡ ltb (z + d) (y + c)
    same_way none none h k r = absurd r
    same_way none (some v) h k r = sym (lt-ltb (z + d) (y + c) (omega (arith, stray_few n p most h.0)))
    same_way (some x) none h k r = sym (le-ltb (z + d) (y + c) (omega (arith, stray_few n q most k.0)))
    same_way (some x) (some v) h k r = rw (h.0, k.0)

    beside_more : (s : ℕ) → p ≡ before 0 s → (a b : Option ℕ) → Beside n p a y → Beside n q b z → Beside (suc n) s (best (plus a c) (plus b d)) (lesser (y + c) (z + d))
    beside_more s e none none h k = (stray_on n s (rw (← e) h.0), go (ltb (z + d) (y + c)))
      where
        go : (t : Bool) → 4 * most < cond t (z + d) (y + c)
        go true = omega arith
        go false = omega arith
    beside_more s e none (some v) h k = rw (← same_way none (some v) h k tt) (omega arith, omega arith)
    beside_more s e (some x) none h k = rw (← same_way (some x) none h k tt) (omega arith, omega arith)
    beside_more s e (some x) (some v) h k = go (ltb (v + d) (x + c)) (same_way (some x) (some v) h k (first_scored (some x) (some v) c d tt))
      where
        go : (t : Bool) → t ≡ ltb (z + d) (y + c) → Beside (suc n) s (cond t (some (v + d)) (some (x + c))) (lesser (y + c) (z + d))
        go true f = rw (← f) (omega arith, omega arith)
        go false f = rw (← f) (omega arith, omega arith)

module _ (start : ℕ → ℕ) (most : ℕ) (zeroth : start 0 ≡ 0) (others : (s : ℕ) → 0 < s → 4 * most < start s) where
  pub beside : (cs : List (ℕ → ℕ)) (s : ℕ) → s < 16 → Bounded most cs → Beside most (length cs) s (score cs s) (metric start cs s)
  beside [] zero h k = (sym zeroth, omega arith)
  beside [] (suc s) h k = (omega arith, others (suc s) (omega arith))
  beside (c ∷ cs) s h k =
      beside_more most (length cs) (before 0 s) (before 1 s) (metric start cs (before 0 s)) (metric start cs (before 1 s)) (c (2 * s + 0)) (c (2 * s + 1))
      (k.0 (2 * s + 0) (omega arith)) (k.0 (2 * s + 1) (omega arith)) s refl (score cs (before 0 s)) (score cs (before 1 s))
      (beside cs (before 0 s) (omega arith) k.1) (beside cs (before 1 s) (omega arith) k.1)
