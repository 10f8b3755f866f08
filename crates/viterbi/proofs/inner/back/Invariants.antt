-- What is written and cleared behind the walk, and what is still before it.
use Prim.Native.Nat.{◌≤◌}
use lib.ListN.{length}
use Rattle.viterbi.proofs.Walks.{Walked}
use Rattle.viterbi.proofs.inner.back.Given as goal

abbrev pub invariant-loop-i : goal.invariant-loop-i
invariant-loop-i l = (l.i ≤ length l.initial.trellis) × Walked (length l.initial.trellis) l.i l.s l.initial.trellis l.trellis l.initial.target l.target
