-- The count so far is that of the symbols passed.
use Prim.Native.Nat.{◌≤◌}
use mathlib.Core.Path.{◌≡◌}
use lib.ListN.{take}
use Rattle.base.specs.Bits.{known}
use Rattle.trellis.specs.Nearest.{total}
use Rattle.viterbi.proofs.inner.unerased.Given as goal

abbrev pub invariant-loop-symbol : goal.invariant-loop-symbol
invariant-loop-symbol l = (l.count ≤ l.symbol-index) × (l.count ≡ total known (take l.symbol-index l.symbols))
