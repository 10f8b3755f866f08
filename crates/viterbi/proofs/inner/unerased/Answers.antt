-- One symbol more is counted if it is a bit.
use native.Mathlib.Omega.{arith}
use Rattle.viterbi.proofs.Counts.{known_more, erased_more}
use Rattle.viterbi.proofs.inner.unerased.Goals as goal

pub loop-symbol-preserved : goal.loop-symbol-preserved
loop-symbol-preserved c = grind (arith, known_more, erased_more)
