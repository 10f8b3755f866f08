-- The interleavers' refusals are never the retired number.
-- Assumes nothing.
use Prim.Native.Nat.{ℕ}
use Rattle.base.specs.Refusal.{Current}
use Rattle.base.proofs.Refusals.{in_use}
use Rattle.interleaver.specs.Interleaving.{block_refusal, matrix_refusal}

pub block_never_nine : (k a src dst : ℕ) → Current (block_refusal k a src dst)
block_never_nine k a src dst = in_use (block_refusal k a src dst)

pub matrix_never_nine : (lines columns src dst : ℕ) → Current (matrix_refusal lines columns src dst)
matrix_never_nine lines columns src dst = in_use (matrix_refusal lines columns src dst)
