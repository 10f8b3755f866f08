-- The test decides which of the two scores is taken.
use native.Mathlib.Omega.{arith}
use Rattle.viterbi.proofs.Ways.{marks_second, marks_first}
use Rattle.viterbi.proofs.inner.chosen.Goals as goal

pub returns-then-q-p : goal.returns-then-q-p
returns-then-q-p c = (marks_second c.args.p c.args.q c.ranges.p c.ranges.q c.if-q-p.true, omega arith)

pub returns-else-q-p : goal.returns-else-q-p
returns-else-q-p c = (marks_first c.args.p c.args.q c.ranges.p c.ranges.q c.if-q-p.false, omega arith)
