-- The refusal of both orders is never the retired number.
-- Assumes nothing.
use Prim.Native.Nat.{ℕ}
use Rattle.base.specs.Refusal.{Current}
use Rattle.base.proofs.Refusals.{in_use}
use Rattle.tch_reorder.specs.Order.{reorder_refusal}

pub never_nine : (src dst : ℕ) → Current (reorder_refusal src dst)
never_nine src dst = in_use (reorder_refusal src dst)
