-- Each read that is made again takes nothing from the reader.
use Rattle.std.proofs.Common.{◌≡◌, length}
use Rattle.std.specs.Io.KnownBytes.{Keeps}
use Rattle.runner.proofs.transfer.read_once.Given as goal

abbrev pub invariant-loop : goal.invariant-loop
invariant-loop g l =
    (length l.buf ≡ length l.initial.buf) × Keeps (g.R.Read.remaining l.initial.input) (g.R.Read.remaining l.input)
