-- The trellis with a score for every state from the first step on, over any cost of a branch. States and windows are those of Walk.antt.
-- Words and steps stand LAST FIRST here, so that the tie rule is the ordinary order of lists.
-- Assumes nothing.
use Rattle.std.specs.Prelude.{List, [], ◌∷◌, reverse, cond, ℕ, ◌+◌, ◌*◌, ◌/◌, ◌<◌, ◌≤◌, ltb}
use Rattle.trellis.specs.Walk.{steps, before, bits_back, ends_in}

-- the state after a word, from the state s
abbrev pub state : ℕ → List ℕ → ℕ
state s [] = s
state s (b ∷ w) = 8 * b + state s w / 2

-- of two scores the smaller
abbrev pub lesser : ℕ → ℕ → ℕ
lesser a b = cond (ltb b a) b a

-- which of two scores is taken: 1 only where the second is smaller
abbrev pub taken : ℕ → ℕ → ℕ
taken a b = cond (ltb b a) 1 0

-- `start s` is the score that state s begins with
module _ (start : ℕ → ℕ) where
  -- what a word costs that begins in state s
  abbrev pub cost : ℕ → List (ℕ → ℕ) → List ℕ → ℕ
  cost s [] w = start s
  cost s (c ∷ cs) [] = start s
  cost s (c ∷ cs) (b ∷ w) = c (16 * b + state s w) + cost s cs w

  -- the path score of state s after these steps
  abbrev pub metric : List (ℕ → ℕ) → ℕ → ℕ
  metric [] s = start s
  metric (c ∷ cs) s = lesser (metric cs (before 0 s) + c (2 * s + 0)) (metric cs (before 1 s) + c (2 * s + 1))

  -- the score of the way into s whose oldest bit is x
  abbrev pub via : (ℕ → ℕ) → List (ℕ → ℕ) → ℕ → ℕ → ℕ
  via c cs s x = metric cs (before x s) + c (2 * s + x)

  -- the oldest bit of the way that is taken into s
  abbrev pub choice : (ℕ → ℕ) → List (ℕ → ℕ) → ℕ → ℕ
  choice c cs s = taken (via c cs s 0) (via c cs s 1)

  -- the bits that the walk back from s meets, and the state in which it ends
  abbrev pub trace : List (ℕ → ℕ) → ℕ → List ℕ
  trace = bits_back choice

  abbrev pub begin : List (ℕ → ℕ) → ℕ → ℕ
  begin = ends_in choice

-- no branch costs more than most
abbrev pub Bounded : ℕ → List (ℕ → ℕ) → Type 0
Bounded most [] = Unit {0}
Bounded most (c ∷ cs) = ((x : ℕ) → x < 32 → c x ≤ most) × Bounded most cs

-- the word that the walk back from state 0 gives after n steps, in the order of the air
unfoldable pub decode : {A : Type 0} → (A → ℕ → ℕ) → (ℕ → List ℕ) → ℕ → (ℕ → ℕ) → List A → ℕ → List ℕ
decode m out k start r n = reverse (trace start (steps m out k r n) 0)
