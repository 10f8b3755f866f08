-- Entry s is the better of the two entries s.
use Prim.Native.Nat.{ℕ, ◌≤◌, ◌<◌}
use mathlib.Core.Path.{◌≡◌}
use lib.IntN.{pos}
use lib.ListN.{length, get_or}
use Rattle.viterbi.specs.private.Scores.{better}
use Rattle.viterbi.proofs.inner.lessers.Given as goal

abbrev pub invariant-loop-s : goal.invariant-loop-s
invariant-loop-s l =
    (l.s ≤ 16) × (length l.r ≡ 16) × ((j : ℕ) → j < l.s → get_or l.r j (pos 0) ≡ better (get_or l.p j (pos 0)) (get_or l.q j (pos 0)))
