-- The entries before i are read.
use Prim.Native.Nat.{◌≤◌}
use mathlib.Core.Path.{◌≡◌}
use lib.ListN.{get_or, replicate}
use Rattle.base.specs.Places.{written, tabulate}
use Rattle.errorcontrol_tp.specs.Receiving.{read_bit}
use Rattle.errorcontrol_tp.proofs.uncoded_bits.Given as goal

abbrev pub invariant-loop-i : goal.invariant-loop-i
invariant-loop-i l = (l.i ≤ 102) × (l.bit-items ≡ written (tabulate (λ j. read_bit (get_or l.block j 0)) l.i) (replicate 102 0))
