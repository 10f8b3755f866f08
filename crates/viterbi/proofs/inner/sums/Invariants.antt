-- Entry s is the sum of the four entries s.
use Prim.Native.Nat.{ℕ, ◌≤◌, ◌<◌}
use mathlib.Core.Path.{◌≡◌}
use lib.IntN.{pos, ◌+ℤ◌}
use lib.ListN.{length, get_or}
use Rattle.viterbi.proofs.inner.sums.Given as goal

abbrev pub invariant-loop-s : goal.invariant-loop-s
invariant-loop-s l =
    (l.s ≤ 16) × (length l.r ≡ 16)
    × ((j : ℕ) → j < l.s → get_or l.r j (pos 0) ≡ get_or l.a j (pos 0) +ℤ get_or l.b j (pos 0) +ℤ get_or l.c j (pos 0) +ℤ get_or l.d j (pos 0))
