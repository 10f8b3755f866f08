-- Places that a loop visits by adding and, past the count, beginning again at the front.
-- Assumes nothing.
use Rattle.std.specs.Prelude.{cond, ℕ, zero, suc, ◌+◌, ◌-◌, ◌≤◌, ltb}
use Rattle.base.specs.private.Places.{Within}

-- a step on from a place; where that is no longer below the count, as far from the front
abbrev pub onward : ℕ → ℕ → ℕ → ℕ
onward step count at = cond (ltb (at + step) count) (at + step) (at + step - count)

-- the place after i steps from the start
unfoldable pub walk : ℕ → ℕ → ℕ → ℕ → ℕ
walk start step count zero = start
walk start step count (suc i) = onward step count (walk start step count i)

-- what the loops ask: small numbers, a source and a target that are long enough, and a walk that stays below the count
pub record Ready (start step count src dst : ℕ) : Type 0 where
  pub small_step : step ≤ 65535
  pub small_count : count ≤ 4096
  pub long : count ≤ src
  pub room : count ≤ dst
  pub stays : Within (walk start step count) count count
