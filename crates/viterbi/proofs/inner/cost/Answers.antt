-- Twice the cost fits, and its half is the cost.
use Rattle.viterbi.proofs.Counts.{twice_counts, cost_is}
use Rattle.viterbi.proofs.inner.cost.Goals as goal

pub overflow_cast-result : goal.overflow_cast-result
overflow_cast-result c = twice_counts c.args.z c.args.symbols c.ranges.z c.requires.0 c.requires.1 c.requires.2

pub returns : goal.returns
returns c = cost_is c.args.z c.args.symbols c.ranges.z c.requires.0 c.requires.1 c.requires.2
