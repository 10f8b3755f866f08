-- Damage to the access field.
-- Assumes nothing.
use Rattle.std.specs.Prelude.{List, ℕ, ◌-◌, get_or, set}

-- bits of which the one at the place, counted from 1, is the other
abbrev pub flipped : ℕ → List ℕ → List ℕ
flipped place bits = set bits (place - 1) (1 - get_or bits (place - 1) 0)
