-- After e entries of the row the first j + e entries are where they belong.
use Prim.Native.Nat.{◌+◌}
use Rattle.puncturing.proofs.Carrying.{Carrying}
use Rattle.puncturing.proofs.Puncturer.carry_period.Given as goal

abbrev pub invariant-loop-e : goal.invariant-loop-e
invariant-loop-e g l = Carrying g.W.Way.way l.self.mode l.j (l.j + l.e) l.input l.initial.output l.output
