-- Beside Places.antt: what only our own contracts and proofs need.
-- Assumes nothing.
use Rattle.std.specs.Prelude.{ℕ, ◌<◌}

-- the first n places lie below m
abbrev pub Within : (ℕ → ℕ) → ℕ → ℕ → Type 0
Within place n m = (i : ℕ) → i < n → place i < m
