-- Entry s is the way into state s.
use Prim.Native.Nat.{ℕ, ◌≤◌, ◌<◌}
use mathlib.Core.Path.{◌≡◌}
use lib.IntN.{pos}
use lib.ListN.{length, get_or}
use Rattle.viterbi.specs.private.Scores.{first_way}
use Rattle.viterbi.proofs.inner.first_ways.Given as goal

abbrev pub invariant-loop-s : goal.invariant-loop-s
invariant-loop-s l =
    (l.s ≤ 16) × (length l.r ≡ 16) × ((j : ℕ) → j < l.s → get_or l.r j (pos 0) ≡ first_way l.m l.b j)
