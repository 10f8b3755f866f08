-- The refusals of sending and receiving are never the retired number.
-- Assumes nothing.
use mathlib.Core.List.{List}
use Prim.Native.Nat.{ℕ}
use Rattle.base.specs.Refusal.{Current}
use Rattle.base.proofs.Refusals.{in_use}
use Rattle.errorcontrol_aach.specs.Sending.{send_refusal}
use Rattle.errorcontrol_aach.specs.Receiving.{receive_refusal}

pub send_never_nine : (bits : List ℕ) (air : ℕ) → Current (send_refusal bits air)
send_never_nine bits air = in_use (send_refusal bits air)

pub receive_never_nine : (air : List ℕ) → Current (receive_refusal air)
receive_never_nine air = in_use (receive_refusal air)
