use native.Mathlib.Omega.{arith}
use Rattle.scrambler.proofs.Fours.{taken_more}
use Rattle.scrambler.proofs.descramble_four.Goals as goal

pub loop-e-preserved : goal.loop-e-preserved
loop-e-preserved c =
    let a = c.args in
    let l = c.loop-e in
    taken_more a.outputs l.e a.at c.descramble_symbol.result a.block.now l.block (omega arith) (omega arith) l.invariant c.descramble_symbol.ensures
