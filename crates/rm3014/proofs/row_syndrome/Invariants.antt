-- The entries from j on have been read, the last of them first.
-- Assumes nothing.
use Prim.Native.Nat.{◌≤◌}
use mathlib.Core.Path.{◌≡◌}
use mathlib.Core.List.{[]}
use lib.ListN.{drop, get_or}
use Rattle.rm3014.specs.Code.{table, upwards}
use Rattle.rm3014.proofs.row_syndrome.Given as goal

abbrev pub invariant-loop-j : goal.invariant-loop-j
invariant-loop-j l = (l.j ≤ 16) × (l.sum ≡ upwards (drop l.j (get_or table l.k [])))
