use Rattle.std.proofs.Common.{get_or, arith}
use Rattle.records.proofs.Laws.{symbols_most, step_end, step_unknown, step_cut, step_counted}
use Rattle.records.proofs.step_at.Goals as goal

pub returns-then-s-at : goal.returns-then-s-at
returns-then-s-at c = step_end _ _ c.if-s-at.true

pub returns-in_default : goal.returns-in_default
returns-in_default c = step_unknown _ _ (omega arith) c.in_default.ensures

pub overflow_add-body : goal.overflow_add-body
overflow_add-body c =
    let a = c.args in
    omega (arith, c.in-Some.ensures.0, symbols_most (get_or a.s.now a.at 0))

pub returns-then-body-s : goal.returns-then-body-s
returns-then-body-s c =
    step_counted _ _ (omega arith) c.in-Some.ensures.0 (λ z. omega (arith, c.in-Some.ensures.1)) (omega (arith, c.if-body-s.true))

pub returns-else-body-s : goal.returns-else-body-s
returns-else-body-s c =
    step_cut _ _ (omega arith) (λ z. omega (arith, c.in-Some.ensures.0, c.in-Some.ensures.1)) (omega (arith, c.in-Some.ensures.0, c.if-body-s.false))
