-- Beside Nearest.antt: what only our own contracts and proofs need.
-- Assumes nothing.
use Rattle.std.specs.Prelude.{List, [], ◌∷◌, ℕ, ◌+◌, ◌*◌, ◌/◌}

-- the four delayed bits after a word
abbrev pub after : ℕ → List ℕ → ℕ
after s [] = s
after s (b ∷ w) = after (8 * b + s / 2) w
