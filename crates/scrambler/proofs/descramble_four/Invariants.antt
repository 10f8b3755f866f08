-- The symbols from `at` to `at + e` have their outputs taken off.
use Rattle.scrambler.specs.private.Fours.{Taken}
use Rattle.scrambler.proofs.descramble_four.Given as goal

abbrev pub invariant-loop-e : goal.invariant-loop-e
invariant-loop-e l = Taken l.outputs l.e l.at l.initial.block l.block
