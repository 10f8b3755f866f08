-- The entries before i are the remainder's, the lowest degree first.
use Prim.Native.Nat.{◌≤◌, ◌-◌}
use mathlib.Core.Path.{◌≡◌}
use lib.ListN.{length, get_or}
use Rattle.base.specs.Places.{written, tabulate}
use Rattle.speech_crc.proofs.put.Given as goal

abbrev pub invariant-loop-i : goal.invariant-loop-i
invariant-loop-i l =
    (l.i ≤ 7) × (length l.check ≡ length l.initial.check) × (l.check ≡ written (tabulate (λ k. get_or l.left (6 - k) 0) l.i) l.initial.check)
