-- The columns before k are written, over zeros.
-- Assumes nothing.
use Prim.Native.Nat.{◌≤◌}
use mathlib.Core.Path.{◌≡◌}
use lib.ListN.{get_or, replicate}
use Rattle.base.specs.Places.{tabulate, written}
use Rattle.rm3014.specs.Code.{columns}
use Rattle.rm3014.proofs.compute_col_syndromes.Given as goal

abbrev pub invariant-loop-k : goal.invariant-loop-k
invariant-loop-k l = (l.k ≤ 30) × (l.out ≡ written (tabulate (λ k. get_or columns k 0) l.k) (replicate 30 0))
