-- The entries below the next one are where they belong, and the place that the code holds is the next entry's kept place.
use Prim.Native.Nat.{◌*◌}
use Rattle.puncturing.specs.private.Walk.{Stands}
use Rattle.puncturing.proofs.Carrying.{Carrying}
use Rattle.puncturing.proofs.Puncturer.carry.Given as goal

abbrev pub invariant-loop-q : goal.invariant-loop-q
invariant-loop-q g l = Carrying g.W.Way.way l.self.mode 0 (l.self.t * l.q) l.input l.initial.output l.output

abbrev pub invariant-loop-j : goal.invariant-loop-j
invariant-loop-j g l = Stands l.self l.j l.at × Carrying g.W.Way.way l.self.mode (l.self.t * l.whole) l.j l.input l.initial.output l.output
