-- Beside Scrambling.antt: what only our own contracts and proofs need.
-- Assumes nothing.
use Rattle.std.specs.Prelude.{ℕ, zero, suc}
use Rattle.scrambler.specs.Scrambling.{next}

-- the register after n shifts
unfoldable pub nexts : ℕ → ℕ → ℕ
nexts x zero = x
nexts x (suc n) = next (nexts x n)
