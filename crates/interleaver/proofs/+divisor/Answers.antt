use Rattle.interleaver.proofs.Divisors.{greatest_step, greatest_end}
use Rattle.interleaver.proofs.+divisor.Goals as goal

pub returns : goal.returns
returns t c = greatest_step c.args.a c.args.b c.divisor.result c.divisor.ensures

pub returns-then-b-eq0 : goal.returns-then-b-eq0
returns-then-b-eq0 t c = greatest_end c.args.a c.args.b c.if-b-eq0.true
