-- One bit more adds that bit's outputs and goes on to the encoder after it.
use Rattle.convenc.proofs.Running.{running_more}
use Rattle.convenc.proofs.Encoder.encode_each.Goals as goal

pub loop-i-preserved : goal.loop-i-preserved
loop-i-preserved g c =
    running_more c.loop-i.invariant c.requires c.RATE.ensures g.met.C.Code.laws c.loop-i-test.true c.after-s.ensures c.outputs.ensures
