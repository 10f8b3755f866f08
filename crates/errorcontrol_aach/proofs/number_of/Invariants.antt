-- The sum is the number of the bits before.
-- Assumes nothing.
use mathlib.Core.Path.{◌≡◌}
use lib.ListN.{take}
use Rattle.base.specs.Digits.{number}
use Rattle.errorcontrol_aach.proofs.number_of.Given as goal

abbrev pub invariant-loop-bit : goal.invariant-loop-bit
invariant-loop-bit l = l.sum ≡ number (take l.bit-index l.bits)
