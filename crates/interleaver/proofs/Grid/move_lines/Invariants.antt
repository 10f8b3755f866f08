-- Before each turn the lines of the pairs so far are at their places.
use mathlib.Core.Path.{◌≡◌}
use Prim.Native.Nat.{◌*◌, ◌/◌, ◌≤◌}
use lib.ListN.{length}
use Rattle.base.specs.Places.{scatter}
use Rattle.interleaver.specs.Interleaving.{matrix_place}
use Rattle.interleaver.proofs.Grid.move_lines.Given as goal

abbrev pub invariant-loop-pair : goal.invariant-loop-pair
invariant-loop-pair l =
    (l.pair ≤ l.self.lines / 2) × (length l.output ≡ length l.initial.output) × (l.output ≡ scatter (matrix_place l.self.lines l.self.columns) (2 * l.pair * l.self.columns) l.input l.initial.output)
