-- The byte form's refusal is never the retired number.
-- Assumes nothing.
use mathlib.Core.List.{List}
use Prim.Native.Nat.{ℕ}
use Rattle.base.specs.Refusal.{Current}
use Rattle.base.proofs.Refusals.{in_use}
use Rattle.crc16.specs.Crc.{bytes_refusal}

pub never_nine : (bytes : List ℕ) (n : ℕ) → Current (bytes_refusal bytes n)
never_nine bytes n = in_use (bytes_refusal bytes n)
