-- The digits of the states from 2 * pair on are in place.
use Prim.Native.Nat.{◌*◌, ◌-◌, ◌≤◌}
use mathlib.Core.Path.{◌≡◌}
use Rattle.viterbi.proofs.Sixteen.{number}
use Rattle.viterbi.proofs.Ways.{choice_at}
use Rattle.viterbi.proofs.inner.choices.Given as goal

abbrev pub invariant-loop-pair : goal.invariant-loop-pair
invariant-loop-pair l = (l.pair ≤ 8) × (l.taken ≡ number (choice_at l.p l.q) (2 * l.pair) (16 - 2 * l.pair))
