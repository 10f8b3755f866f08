-- Each write that is made again adds nothing.
use Rattle.std.specs.Io.KnownBytes.{Keeps}
use Rattle.runner.proofs.transfer.write_once.Given as goal

abbrev pub invariant-loop : goal.invariant-loop
invariant-loop g l = Keeps (g.W.Write.contents l.initial.output) (g.W.Write.contents l.output)
