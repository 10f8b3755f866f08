use mathlib.Core.Path.{refl}
use Rattle.base.specs.Places.{tabulate}
use Rattle.speech_crc.proofs.Sums.{parity_more}
use Rattle.speech_crc.proofs.parity.Goals as goal

pub loop-b-init : goal.loop-b-init
unfolding tabulate
loop-b-init c = refl

pub loop-b-preserved : goal.loop-b-preserved
loop-b-preserved c =
    let s = c.args.s.now in
    let l = c.loop-b in
    parity_more s l.b-index l.sum l.invariant
