use lib.Seq.{length-take-le}
use Rattle.convenc.specs.Generators.{speech, tapped}
use Rattle.viterbi.specs.private.Scores.{mirrored}
use Rattle.viterbi.proofs.Tables.{speech_table, speech_tells}
use Rattle.viterbi.proofs.Fronts.{found_in_front}
use Rattle.viterbi.proofs.inner.speech.Goals as goal

pub returns : goal.returns
unfolding speech_table tapped mirrored
returns c =
    let a = c.args in
    found_in_front speech a.n a.source.now a.target.now a.trellis.now c.requires.1 c.requires.2 c.requires.3
    (length-take-le a.n a.trellis.now c.requires.2) (c.run.ensures speech speech_tells)
