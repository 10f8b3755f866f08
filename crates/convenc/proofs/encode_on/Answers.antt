-- One bit more adds that bit's outputs.
use Rattle.convenc.proofs.Running.{reading_more}
use Rattle.convenc.proofs.encode_on.Goals as goal

pub loop-i-preserved : goal.loop-i-preserved
loop-i-preserved g c = reading_more c.loop-i.invariant c.RATE.ensures g.met.C.Code.laws c.loop-i-test.true c.outputs.ensures
