-- An encoder's refusal is never the retired number.
-- Assumes nothing.
use mathlib.Core.List.{List}
use Prim.Native.Nat.{ℕ}
use Rattle.base.specs.Refusal.{Current}
use Rattle.base.proofs.Refusals.{in_use}
use Rattle.convenc.specs.Generators.{encode_refusal}

pub never_nine : (rate : ℕ) (delayed src : List ℕ) (dst : ℕ) → Current (encode_refusal rate delayed src dst)
never_nine rate delayed src dst = in_use (encode_refusal rate delayed src dst)
