-- Before place i what was found is what the first i entries give.
use mathlib.Core.Path.{◌≡◌}
use Prim.Native.Nat.{◌≤◌}
use lib.ListN.{take}
use Rattle.comparing.specs.private.Gathering.{unerased}
use Rattle.comparing.proofs.unerased.Given as goal

abbrev pub invariant-loop-d : goal.invariant-loop-d
invariant-loop-d l = (l.found ≤ l.d-index) × (l.found ≡ unerased (take l.d-index l.s))
