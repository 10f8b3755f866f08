-- After i steps the scores and the trellis are those of the first i.
use Rattle.viterbi.specs.private.Scores.{Forward}
use Rattle.viterbi.proofs.inner.Code.forward.Given as goal

abbrev pub invariant-loop-i : goal.invariant-loop-i
invariant-loop-i l = Forward l.self.rate l.self.expected l.source l.i l.scores.m l.initial.trellis l.trellis
