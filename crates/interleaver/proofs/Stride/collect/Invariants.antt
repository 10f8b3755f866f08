-- Before each turn the first i entries have come from their places, and the walk stands at place i.
use mathlib.Core.Path.{◌≡◌}
use Prim.Native.Nat.{◌≤◌}
use lib.ListN.{length}
use Rattle.base.specs.Places.{written, gather}
use Rattle.interleaver.specs.private.Walk.{walk}
use Rattle.interleaver.proofs.Stride.collect.Given as goal

abbrev pub invariant-loop-i : goal.invariant-loop-i
invariant-loop-i l =
    (l.i ≤ l.self.count) × (length l.output ≡ length l.initial.output) × (l.at ≡ walk l.self.start l.self.step l.self.count l.i) × (l.output ≡ written (gather (walk l.self.start l.self.step l.self.count) l.i l.input) l.initial.output)
