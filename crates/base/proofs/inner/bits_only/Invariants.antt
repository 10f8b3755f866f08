-- Before each turn the bitwise or of the entries before it is a bit where all of them are.
use Prim.Native.Nat.{◌≤◌}
use mathlib.Core.Path.{◌≡◌}
use lib.Dec.{ltb}
use lib.ListN.{length}
use Rattle.base.specs.Bits.{bits_only}
use Rattle.base.proofs.inner.bits_only.Given as goal

abbrev pub invariant-loop-entry : goal.invariant-loop-entry
invariant-loop-entry l = (l.entry-index ≤ length l.s) × (ltb l.all 2 ≡ bits_only l.entry-index l.s)
