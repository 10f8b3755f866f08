-- The second number falls at each call: it becomes a remainder by itself.
use Rattle.interleaver.proofs.+divisor.Given as goal

abbrev pub decreases-divisor : goal.decreases-divisor
decreases-divisor l = l.b
