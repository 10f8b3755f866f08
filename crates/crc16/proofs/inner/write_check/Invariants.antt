-- The first i check bits stand over the front of the target.
use Prim.Native.Nat.{◌≤◌}
use mathlib.Core.Path.{◌≡◌}
use lib.ListN.{length}
use Rattle.base.specs.Places.{tabulate, written}
use Rattle.crc16.proofs.Checks.{check_bit}
use Rattle.crc16.proofs.inner.write_check.Given as goal

abbrev pub invariant-loop-i : goal.invariant-loop-i
invariant-loop-i l =
    (l.i ≤ 16) × (length l.target ≡ length l.initial.target) × (l.target ≡ written (tabulate (check_bit l.complement) l.i) l.initial.target)
