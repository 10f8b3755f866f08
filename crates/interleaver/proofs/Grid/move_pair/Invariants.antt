-- Before each turn the first i entries of both lines are at their places, and the next place is i lines on from the first line's own.
use mathlib.Core.Path.{◌≡◌}
use Prim.Native.Nat.{◌+◌, ◌*◌, ◌≤◌}
use lib.ListN.{length, drop}
use Rattle.base.specs.Places.{scatter}
use Rattle.interleaver.proofs.Grid.move_pair.Given as goal

abbrev pub invariant-loop-i : goal.invariant-loop-i
invariant-loop-i l =
    (l.i ≤ l.self.columns) × (length l.output ≡ length l.initial.output) × (l.at ≡ l.i * l.self.lines + l.line) × (l.output ≡ scatter (λ k. k * l.self.lines + (l.line + 1)) l.i (drop l.second l.input) (scatter (λ k. k * l.self.lines + l.line) l.i (drop l.first l.input) l.initial.output))
