-- The refusals of data and of words are never the retired number.
-- Assumes nothing.
use Prim.Native.Nat.{ℕ}
use Rattle.base.specs.Refusal.{Current}
use Rattle.base.proofs.Refusals.{in_use}
use Rattle.rm3014.specs.Verdict.{input_refusal, word_refusal}

pub input_never_nine : (input : ℕ) → Current (input_refusal input)
input_never_nine input = in_use (input_refusal input)

pub word_never_nine : (word : ℕ) → Current (word_refusal word)
word_never_nine word = in_use (word_refusal word)
