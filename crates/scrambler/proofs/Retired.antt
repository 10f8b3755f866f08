-- The scrambler's refusals are never the retired number.
-- Assumes nothing.
use mathlib.Core.List.{List}
use Prim.Native.Nat.{ℕ}
use Rattle.base.specs.Refusal.{Current}
use Rattle.base.proofs.Refusals.{in_use}
use Rattle.scrambler.specs.Scrambling.{field_refusal, send_refusal}

pub field_never_nine : (mcc mnc colour : ℕ) → Current (field_refusal mcc mnc colour)
field_never_nine mcc mnc colour = in_use (field_refusal mcc mnc colour)

pub send_never_nine : (block : List ℕ) → Current (send_refusal block)
send_never_nine block = in_use (send_refusal block)
