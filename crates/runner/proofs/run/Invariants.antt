-- The story that the turns tell, and that each counts a record or keeps more.
use Rattle.std.proofs.Common.{◌≡◌, length}
use Rattle.reading.specs.declared.Next.TheVariants.{Goes}
use Rattle.runner.specs.Loop.{Story}
use Rattle.runner.proofs.Loop.{Ready, left}
use Rattle.runner.proofs.run.Given as goal

abbrev pub invariant-loop-meter : goal.invariant-loop-meter
invariant-loop-meter g l =
    (length l.buf ≡ length l.initial.buf) × (length l.out ≡ length l.initial.out) × (l.held.next ≡ Goes → Ready l.held)
    × Story (g.R.Read.remaining l.initial.input) (g.R.Read.remaining l.input) (g.W.Write.contents l.initial.output)
    (g.W.Write.contents l.output) l.held l.buf

abbrev pub decreases-loop-meter : goal.decreases-loop-meter
decreases-loop-meter g l = left l.held
