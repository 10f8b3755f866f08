-- The entries from i on are written; what is left of n stands before them.
use Rattle.std.proofs.Common.{◌≡◌, ◌++◌, ◌≤◌, length, drop}
use Rattle.lines.specs.Text.{hex}
use Rattle.lines.proofs.inner.hex_digits.Given as goal

abbrev pub invariant-loop-i : goal.invariant-loop-i
invariant-loop-i l = (l.i ≤ length l.digits) × (length l.digits ≡ length l.initial.digits)
    × (hex (length l.initial.digits) l.n ≡ hex l.i l.rest ++ drop l.i l.digits)
