-- The walk back through the trellis. Each state keeps the score of the best way that leads to it from state 0, and the walk follows the best ways
-- back. A state that no word leads to from state 0 has no score, and no way that is taken comes from it.
-- A state is the four newest bits, the newest of weight 8; a branch is known by its window: the newest bit, of weight 16, and the four before it.
-- Bits and steps stand LAST FIRST here.
-- Assumes nothing.
use Rattle.std.specs.Prelude.{List, [], ◌∷◌, Bool, false, true, cond, ℕ, zero, suc, ◌+◌, ◌*◌, ◌/◌, ◌%◌, ltb, take, drop}
use Rattle.std.proofs.Math.Option.{Option, none, some}
use Rattle.trellis.specs.Nearest.{distance}

-- the cost of a branch at step i, counted from 0, of k symbols: what was received in the step, against what its window sends
abbrev pub branch : {A : Type 0} → (A → ℕ → ℕ) → (ℕ → List ℕ) → ℕ → List A → ℕ → ℕ → ℕ
branch m out k r i x = distance m (take k (drop (k * i) r)) (out x)

-- the first n steps, each by the costs of its branches
abbrev pub steps : {A : Type 0} → (A → ℕ → ℕ) → (ℕ → List ℕ) → ℕ → List A → ℕ → List (ℕ → ℕ)
steps m out k r zero = []
steps m out k r (suc i) = branch m out k r i ∷ steps m out k r i

-- the state before s whose oldest bit was x
abbrev pub before : ℕ → ℕ → ℕ
before x s = s % 8 * 2 + x

-- ---- a walk back, where `oldest c cs s` is the oldest bit of the way into state s that is taken: c is the last step, cs are those before it
module _ (oldest : (ℕ → ℕ) → List (ℕ → ℕ) → ℕ → ℕ) where
  -- the bits that it meets from state s
  abbrev pub bits_back : List (ℕ → ℕ) → ℕ → List ℕ
  bits_back [] s = []
  bits_back (c ∷ cs) s = s / 8 ∷ bits_back cs (before (oldest c cs s) s)

  -- the state in which it ends
  abbrev pub ends_in : List (ℕ → ℕ) → ℕ → ℕ
  ends_in [] s = s
  ends_in (c ∷ cs) s = ends_in cs (before (oldest c cs s) s)

-- ---- the best ways
-- the score of a way: that of the state before it, and the cost of its branch
abbrev pub plus : Option ℕ → ℕ → Option ℕ
plus none c = none
plus (some n) c = some (n + c)

-- whether the second of two ways is taken: only where it has a score, and the first has none or a higher one
abbrev pub second : Option ℕ → Option ℕ → Bool
second a none = false
second none (some m) = true
second (some n) (some m) = ltb m n

-- the score of the way that is taken
abbrev pub best : Option ℕ → Option ℕ → Option ℕ
best a b = cond (second a b) b a

-- the score of state s after these steps
abbrev pub score : List (ℕ → ℕ) → ℕ → Option ℕ
score [] zero = some 0
score [] (suc s) = none
score (c ∷ cs) s = best (plus (score cs (before 0 s)) (c (2 * s + 0))) (plus (score cs (before 1 s)) (c (2 * s + 1)))

-- the score of the way into s whose oldest bit is x, and the oldest bit of the best way
abbrev pub way : (ℕ → ℕ) → List (ℕ → ℕ) → ℕ → ℕ → Option ℕ
way c cs s x = plus (score cs (before x s)) (c (2 * s + x))

abbrev pub best_way : (ℕ → ℕ) → List (ℕ → ℕ) → ℕ → ℕ
best_way c cs s = cond (second (way c cs s 0) (way c cs s 1)) 1 0
