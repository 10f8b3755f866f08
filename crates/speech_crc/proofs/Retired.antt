-- The speech check's refusal is never the retired number.
-- Assumes nothing.
use Prim.Native.Nat.{ℕ}
use Rattle.base.specs.Refusal.{Current}
use Rattle.base.proofs.Refusals.{in_use}
use Rattle.speech_crc.specs.Check.{check_refusal}

pub never_nine : (src dst : ℕ) → Current (check_refusal src dst)
never_nine src dst = in_use (check_refusal src dst)
