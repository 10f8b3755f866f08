-- The refusals of puncturing and depuncturing are never the retired number.
-- Assumes nothing.
use Prim.Native.Nat.{ℕ}
use Rattle.base.specs.Refusal.{Current}
use Rattle.base.proofs.Refusals.{in_use}
use Rattle.puncturing.specs.Puncturing.{puncture_refusal, depuncture_refusal}

pub puncture_never_nine : (mode n src dst : ℕ) → Current (puncture_refusal mode n src dst)
puncture_never_nine mode n src dst = in_use (puncture_refusal mode n src dst)

pub depuncture_never_nine : (mode n src dst : ℕ) → Current (depuncture_refusal mode n src dst)
depuncture_never_nine mode n src dst = in_use (depuncture_refusal mode n src dst)
