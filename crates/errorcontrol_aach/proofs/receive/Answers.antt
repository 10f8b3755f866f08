use native.Mathlib.Omega.{arith}
use Rattle.errorcontrol_aach.proofs.Chains.{block_length, block_only, judged_received}
use Rattle.errorcontrol_aach.proofs.receive.Goals as goal

pub number_of-requires : goal.number_of-requires
number_of-requires c =
    let a = c.args in
    let t = c.descramble in
    (omega (arith, block_length a.start a.air.now t.new.plain c.requires.0 c.requires.1 t.ensures), block_only a.start a.air.now t.new.plain c.requires.0 c.requires.1 t.ensures)

pub returns : goal.returns
returns c =
    let a = c.args in
    let t = c.descramble in
    judged_received a.start a.air.now t.new.plain c.requires.0 c.requires.1 t.ensures c.number_of.result c.verdict_of.result c.number_of.ensures.0 c.verdict_of.ensures
