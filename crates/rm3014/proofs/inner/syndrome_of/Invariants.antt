-- The sum so far, with what the columns not yet seen add for the bits that are set, is the syndrome.
-- Assumes nothing.
use Prim.Native.Nat.{◌≤◌}
use mathlib.Core.Path.{◌≡◌}
use lib.Bits.{bit_xor}
use lib.ListN.{drop}
use Rattle.linear.specs.Linear.{image}
use Rattle.rm3014.specs.Code.{columns, syndrome}
use Rattle.rm3014.proofs.inner.syndrome_of.Given as goal

abbrev pub invariant-loop-i : goal.invariant-loop-i
invariant-loop-i l = (l.i ≤ 30) × (bit_xor l.sum (image (drop l.i columns) l.codeword) ≡ syndrome l.codeword)
