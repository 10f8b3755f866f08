-- Numbers as bits, the most significant first.
-- Assumes nothing.
use mathlib.Core.List.{List, [], ◌∷◌, foldl}
use Rattle.std.specs.Prelude.{ℕ, zero, suc, ◌+◌, ◌*◌, ◌/◌, ◌%◌, ◌^◌}

-- the last k binary digits of n
abbrev pub digits : ℕ → ℕ → List ℕ
digits zero n = []
digits (suc k) n = n / 2 ^ k % 2 ∷ digits k n

-- the sum of the products of two lists' entries, place by place
abbrev pub dot : List ℕ → List ℕ → ℕ
dot [] ys = 0
dot (x ∷ xs) [] = 0
dot (x ∷ xs) (y ∷ ys) = x * y + dot xs ys

-- the number that the digits say: each doubles what the ones before it say
abbrev pub number : List ℕ → ℕ
number = foldl (λ n b. n * 2 + b) 0
