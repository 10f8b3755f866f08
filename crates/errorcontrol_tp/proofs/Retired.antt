-- The refusals of sending and receiving are never the retired number.
-- Assumes nothing.
use mathlib.Core.List.{List}
use Prim.Native.Nat.{ℕ}
use Rattle.base.specs.Refusal.{Current}
use Rattle.base.proofs.Refusals.{in_use}
use Rattle.errorcontrol_tp.specs.Sending.{send_refusal}
use Rattle.errorcontrol_tp.specs.Receiving.{receive_refusal}

pub send_never_nine : (count : ℕ) (codec : List ℕ) (air : ℕ) → Current (send_refusal count codec air)
send_never_nine count codec air = in_use (send_refusal count codec air)

pub receive_never_nine : (count air codec trellis : ℕ) → Current (receive_refusal count air codec trellis)
receive_never_nine count air codec trellis = in_use (receive_refusal count air codec trellis)
