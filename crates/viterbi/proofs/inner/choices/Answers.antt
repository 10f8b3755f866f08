-- There is room for two digits more, and the two choices are put below the others.
use mathlib.Core.Path.{◌≡◌, ap₂, ◌∙◌}
use Prim.Native.Nat.{ℕ, ◌+◌, ◌-◌, ◌*◌}
use native.Mathlib.Omega.{arith}
use Rattle.viterbi.specs.private.Scores.{oldest}
use Rattle.viterbi.proofs.Sixteen.{number_pair, number_room, number_marks}
use Rattle.viterbi.proofs.Ways.{choice_at, choice_at_lt, small_reads}
use Rattle.viterbi.proofs.inner.choices.Goals as goal

pub overflow_mul-taken : goal.overflow_mul-taken
overflow_mul-taken c =
    let a = c.args in
    let l = c.loop-pair in
    let h = number_room (choice_at a.p a.q) (choice_at_lt a.p a.q) (2 * l.pair) l.taken (omega arith) (omega arith) l.invariant.1 in
    record { fits = omega (arith, h) }

pub overflow_add-taken-in-loop-pair : goal.overflow_add-taken-in-loop-pair
overflow_add-taken-in-loop-pair c =
    let a = c.args in
    let l = c.loop-pair in
    let h = number_room (choice_at a.p a.q) (choice_at_lt a.p a.q) (2 * l.pair) l.taken (omega arith) (omega arith) l.invariant.1 in
    record { fits = omega (arith, h, c.chosen.ensures.1, c.chosen-in-loop-pair.ensures.1) }

pub loop-pair-preserved : goal.loop-pair-preserved
loop-pair-preserved c =
    let a = c.args in
    let l = c.loop-pair in
    let x = c.chosen in
    let y = c.chosen-in-loop-pair in
    let s : ℕ = 2 * (l.pair - 1) in (
      omega arith,
      number_pair (choice_at a.p a.q) (2 * l.pair) s l.taken x.result y.result (omega arith) (omega arith) l.invariant.1
          (x.ensures.0 ∙ ap₂ oldest (small_reads a.p c.requires.0 s (omega arith)) (small_reads a.q c.requires.1 s (omega arith)))
          (y.ensures.0 ∙ ap₂ oldest (small_reads a.p c.requires.0 (s + 1) (omega arith)) (small_reads a.q c.requires.1 (s + 1) (omega arith))),
    )

pub returns : goal.returns
returns c =
    let a = c.args in
    let l = c.loop-pair in
    let z : 2 * l.pair ≡ 0 = omega arith in
    number_marks (choice_at a.p a.q) (choice_at_lt a.p a.q) (2 * l.pair) l.taken z l.invariant.1
