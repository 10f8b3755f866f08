-- What hard symbols cost: 0 and 1 against bits, and the erasure.
-- Assumes nothing.
use mathlib.Core.Path.{◌≡◌, refl}
use Prim.Native.Nat.{ℕ, zero, suc, ◌+◌, ◌≤◌, ◌<◌}
use native.Mathlib.Omega.{arith}
use Rattle.base.specs.Bits.{disagrees}

pub disagrees_self : (y : ℕ) → y < 2 → disagrees y y ≡ 0
disagrees_self zero h = refl
disagrees_self (suc zero) h = refl
disagrees_self (suc (suc y)) h = refl

-- a bit costs nothing against one bit only
pub disagrees_tells : (r y z : ℕ) → r < 2 → y < 2 → z < 2 → disagrees r y ≡ 0 → disagrees r z ≡ 0 → y ≡ z
disagrees_tells zero y z h k l p q = omega arith
disagrees_tells (suc zero) zero z h k l p q = absurd (omega arith)
disagrees_tells (suc zero) (suc y) zero h k l p q = absurd (omega arith)
disagrees_tells (suc zero) (suc y) (suc z) h k l p q = omega arith
disagrees_tells (suc (suc r)) y z h k l p q = absurd (omega arith)

-- no symbol speaks more for a bit than the bit itself
pub disagrees_filled : (r y z : ℕ) → y < 2 → z < 2 → disagrees r z + disagrees y y ≤ disagrees y z + disagrees r y
disagrees_filled zero zero z h k = omega arith
disagrees_filled zero (suc zero) zero h k = omega arith
disagrees_filled zero (suc zero) (suc z) h k = omega arith
disagrees_filled (suc zero) zero zero h k = omega arith
disagrees_filled (suc zero) zero (suc z) h k = omega arith
disagrees_filled (suc zero) (suc zero) z h k = omega arith
disagrees_filled (suc (suc r)) zero z h k = omega arith
disagrees_filled (suc (suc r)) (suc zero) z h k = omega arith
disagrees_filled r (suc (suc y)) z h k = absurd (omega arith)
