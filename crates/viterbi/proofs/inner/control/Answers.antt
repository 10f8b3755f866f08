use lib.Seq.{length-take-le}
use Rattle.convenc.specs.Generators.{control, tapped}
use Rattle.viterbi.specs.private.Scores.{mirrored}
use Rattle.viterbi.proofs.Tables.{control_table, control_tells}
use Rattle.viterbi.proofs.Fronts.{found_in_front}
use Rattle.viterbi.proofs.inner.control.Goals as goal

pub returns : goal.returns
unfolding control_table tapped mirrored
returns c =
    let a = c.args in
    found_in_front control a.n a.source.now a.target.now a.trellis.now c.requires.1 c.requires.2 c.requires.3
    (length-take-le a.n a.trellis.now c.requires.2) (c.run.ensures control control_tells)
