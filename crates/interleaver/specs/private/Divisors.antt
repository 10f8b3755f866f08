-- The greatest number that divides two numbers.
-- Assumes nothing.
use Rattle.std.specs.Prelude.{ℕ}
use Rattle.std.specs.Int.{◌∣◌}

-- r divides both, and whatever divides both divides r
pub record Greatest (a b r : ℕ) : Type 0 where
  pub left : r ∣ a
  pub right : r ∣ b
  pub most : (d : ℕ) → d ∣ a → d ∣ b → d ∣ r
