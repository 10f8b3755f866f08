-- The refusals of sending and receiving are never the retired number.
-- Assumes nothing.
use mathlib.Core.List.{List}
use Prim.Native.Nat.{ℕ}
use Rattle.base.specs.Refusal.{Current}
use Rattle.base.proofs.Refusals.{in_use}
use Rattle.errorcontrol_cp.specs.Sending.{send_refusal}
use Rattle.errorcontrol_cp.specs.Receiving.{receive_refusal}

pub send_never_nine : (kind : ℕ) (block : List ℕ) (air : ℕ) → Current (send_refusal kind block air)
send_never_nine kind block air = in_use (send_refusal kind block air)

pub receive_never_nine : (kind air word trellis : ℕ) → Current (receive_refusal kind air word trellis)
receive_never_nine kind air word trellis = in_use (receive_refusal kind air word trellis)
