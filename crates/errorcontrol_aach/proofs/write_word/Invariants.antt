-- The digits before i are written.
-- Assumes nothing.
use Prim.Native.Nat.{◌-◌, ◌/◌, ◌%◌, ◌^◌, ◌≤◌}
use mathlib.Core.Path.{◌≡◌}
use Rattle.base.specs.Places.{tabulate, written}
use Rattle.errorcontrol_aach.proofs.write_word.Given as goal

abbrev pub invariant-loop-i : goal.invariant-loop-i
invariant-loop-i l = (l.i ≤ 30) × (l.air ≡ written (tabulate (λ j. l.word / 2 ^ (29 - j) % 2) l.i) l.initial.air)
