-- What a loop over places leaves: lists made entry by entry, written over the front of a target, moved from place to place.
-- Assumes nothing.
use Rattle.std.specs.Prelude.{List, [], ◌∷◌, ◌++◌, ℕ, zero, suc, ◌<◌, ◌≡◌, length, drop, get_or, set}

-- f 0, f 1, .. f (n - 1)
unfoldable pub tabulate : (ℕ → ℕ) → ℕ → List ℕ
tabulate f zero = []
tabulate f (suc n) = tabulate f n ++ (f n ∷ [])

-- the list new over the front of old; the rest of old stays
abbrev pub written : List ℕ → List ℕ → List ℕ
written new old = new ++ drop (length new) old

-- entry j is the source's entry at place j, n entries
abbrev pub gather : (ℕ → ℕ) → ℕ → List ℕ → List ℕ
gather place n src = tabulate (λ j. get_or src (place j) 0) n

-- entry i of the source goes to place i, for the first n; the rest of the target stays
unfoldable pub scatter : (ℕ → ℕ) → ℕ → List ℕ → List ℕ → List ℕ
scatter place zero src dst = dst
scatter place (suc n) src dst = set (scatter place n src dst) (place n) (get_or src n 0)

-- no two of the first n places are the same
abbrev pub Apart : (ℕ → ℕ) → ℕ → Type 0
Apart place n = (i j : ℕ) → i < n → j < n → place i ≡ place j → i ≡ j
