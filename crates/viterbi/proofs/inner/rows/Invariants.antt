-- Row 0 is the signs, row 1 the signs turned, and row 2 stays 0.
use Prim.Native.Nat.{◌≤◌}
use Rattle.viterbi.proofs.Branches.{Made}
use Rattle.viterbi.proofs.inner.rows.Given as goal

abbrev pub invariant-loop-s : goal.invariant-loop-s
invariant-loop-s l = (l.s ≤ 16) × Made l.e l.s l.r
