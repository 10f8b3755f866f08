-- What is left of n stands before the digits that are written.
use Rattle.std.proofs.Common.{◌≡◌, ◌++◌, ◌^◌, ◌≤◌, ◌<◌, suc, length, drop}
use Rattle.lines.specs.Text.{decimal}
use Rattle.lines.proofs.inner.decimal_digits.Given as goal

abbrev pub invariant-loop-rest : goal.invariant-loop-rest
invariant-loop-rest l = (l.at ≤ 19) × (length l.digits ≡ 20) × (l.rest < 10 ^ suc l.at) × (decimal l.n ≡ decimal l.rest ++ drop (suc l.at) l.digits)

abbrev pub decreases-loop-rest : goal.decreases-loop-rest
decreases-loop-rest l = l.at
