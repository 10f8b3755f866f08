use native.Mathlib.Omega.{arith}
use Rattle.scrambler.proofs.AtOnce.{renewal, downs, ups, renewal_shifts}
use Rattle.scrambler.proofs.Register.renewed.Goals as goal

-- The outputs, from the taps of the register as it is.
pub returns : goal.returns
unfolding renewal downs ups
returns c = renewal_shifts c.args.self.bits (omega arith)
