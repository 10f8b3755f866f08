-- A decoder's refusal is never the retired number.
-- Assumes nothing.
use mathlib.Core.List.{List}
use Prim.Native.Nat.{ℕ}
use Rattle.base.specs.Refusal.{Current}
use Rattle.base.proofs.Refusals.{in_use}
use Rattle.viterbi.specs.Decoding.{decode_refusal}

pub never_nine : (code : List (List ℕ)) (n src trellis dst : ℕ) → Current (decode_refusal code n src trellis dst)
never_nine code n src trellis dst = in_use (decode_refusal code n src trellis dst)
