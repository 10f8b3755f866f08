-- Before each turn the first i entries are at their places, and the walk stands at place i.
use mathlib.Core.Path.{◌≡◌}
use Prim.Native.Nat.{◌≤◌}
use lib.ListN.{length}
use Rattle.base.specs.Places.{scatter}
use Rattle.interleaver.specs.private.Walk.{walk}
use Rattle.interleaver.proofs.Stride.spread.Given as goal

abbrev pub invariant-loop-i : goal.invariant-loop-i
invariant-loop-i l =
    (l.i ≤ l.self.count) × (length l.output ≡ length l.initial.output) × (l.at ≡ walk l.self.start l.self.step l.self.count l.i) × (l.output ≡ scatter (walk l.self.start l.self.step l.self.count) l.i l.input l.initial.output)
