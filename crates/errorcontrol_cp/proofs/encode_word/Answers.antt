-- The word is made in the work array and encoded from there.
use native.Mathlib.Omega.{arith}
use Prim.Native.Nat.{◌+◌}
use lib.ListN.{length, replicate}
use Rattle.errorcontrol_cp.proofs.Parts.{take_replicate}
use Rattle.errorcontrol_cp.proofs.Chains.{mother_made}
use Rattle.errorcontrol_cp.proofs.encode_word.Goals as goal

pub write_word-requires : goal.write_word-requires
write_word-requires c = take_replicate (length c.args.«data».now + 20) 288 0 (omega (arith, c.requires))

pub returns : goal.returns
returns c =
    let a = c.args in
    mother_made a.«data».now c.write_word.new.word c.write_word.ensures (replicate 288 0) c.new.result.delayed a.mother.now c.encode.new.output
    c.requires.1 c.requires.0 c.new.ensures c.requires.2 c.encode.ensures.target
