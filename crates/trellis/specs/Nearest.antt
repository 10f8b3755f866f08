-- The nearest word of a code to what was received: what a decoder owes, with no trellis in it.
-- Words and received symbols are in the order of the air, the first first.
-- Assumes nothing.
use Rattle.std.specs.Prelude.{List, [], ◌∷◌, ◌++◌, map, reverse, cond, ◌⊎◌, ◌≡◌, ℕ, zero, suc, ◌+◌, ◌*◌, ◌/◌, ◌-◌, ◌<◌, min, ltb, length, get_or, replicate}
use Rattle.base.specs.Bits.{Bits}

-- the encoder, from the four delayed bits s, the newest of weight 8: `out` gives the symbols of a window of five bits, the newest of weight 16
abbrev pub encode : (ℕ → List ℕ) → ℕ → List ℕ → List ℕ
encode out s [] = []
encode out s (b ∷ w) = out (16 * b + s) ++ encode out (8 * b + s / 2) w

-- the sum over the places of what it costs that r was received where y was sent, which is m r y
abbrev pub distance : {A : Type 0} → (A → ℕ → ℕ) → List A → List ℕ → ℕ
distance m [] ys = 0
distance m (r ∷ rs) [] = 0
distance m (r ∷ rs) (y ∷ ys) = m r y + distance m rs ys

-- the sum of a number of each symbol
abbrev pub total : {A : Type 0} → (A → ℕ) → List A → ℕ
total f [] = 0
total f (r ∷ rs) = f r + total f rs

-- all words of n bits, written from the last bit to the first, in the order of the tie rule: 0 before 1 at the first difference
abbrev pub backwards : ℕ → List (List ℕ)
backwards zero = [] ∷ []
backwards (suc n) = map (λ (w : List ℕ). 0 ∷ w) (backwards n) ++ map (λ (w : List ℕ). 1 ∷ w) (backwards n)

-- the words of n bits of which the last four are 0, or all n when n is under 4, in the order of the tie rule
unfoldable pub candidates : ℕ → List (List ℕ)
candidates n = map (λ (w : List ℕ). reverse (replicate (min 4 n) 0 ++ w)) (backwards (n - 4))

-- the first of w and the list that no other is nearer than
abbrev pub first_least : (List ℕ → ℕ) → List ℕ → List (List ℕ) → List ℕ
first_least far w [] = w
first_least far w (v ∷ vs) = first_least far (cond (ltb (far v) (far w)) v w) vs

-- of all candidates the nearest; between equals the one with 0 at the first difference counted from the last bit
unfoldable pub nearest : (List ℕ → ℕ) → ℕ → List ℕ
nearest far n = first_least far (replicate n 0) (candidates n)

-- ---- the same, said by what a word must meet
-- the smaller entry stands at the first difference
abbrev pub Lex : List ℕ → List ℕ → Type 0
Lex [] v = Unit {0}
Lex (a ∷ w) [] = ⊥
Lex (a ∷ w) (b ∷ v) = (a < b) ⊎ ((a ≡ b) × Lex w v)

-- a word of n bits of which the last four are 0, or all n when n is under 4
pub record Candidate (n : ℕ) (w : List ℕ) : Type 0 where
  pub len : length w ≡ n
  pub bits : Bits w
  pub tail : (i : ℕ) → i < 4 → get_or (reverse w) i 0 ≡ 0

-- w is nearer than v, or as near and has 0 at the last place where the two differ (or is v)
abbrev pub Before : (List ℕ → ℕ) → List ℕ → List ℕ → Type 0
Before far w v = (far w < far v) ⊎ ((far w ≡ far v) × Lex (reverse w) (reverse v))

pub record Winner (far : List ℕ → ℕ) (n : ℕ) (w : List ℕ) : Type 0 where
  pub candidate : Candidate n w
  pub wins : (v : List ℕ) → Candidate n v → Before far w v
