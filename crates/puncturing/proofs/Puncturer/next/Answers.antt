use Rattle.puncturing.proofs.Walking.{next_skips, next_runs, stands_small}
use native.Mathlib.Omega.{arith}
use Rattle.puncturing.proofs.Puncturer.next.Goals as goal

-- At the end of a run two entries of P are passed, and otherwise one.
pub returns-then-j-at : goal.returns-then-j-at
returns-then-j-at c =
    let a = c.args in
    next_skips a.self.now a.j a.at c.requires.0 c.if-j-at.true c.moved.ensures.0 c.moved.ensures.1

pub returns : goal.returns
returns c =
    let a = c.args in
    next_runs a.self.now a.j a.at c.requires.0 c.if-j-at.false c.moved-2.ensures.0 c.moved-2.ensures.1

pub overflow_add-at : goal.overflow_add-at
overflow_add-at c =
    let a = c.args in
    omega (arith, stands_small a.self.now a.j a.at c.requires.0 c.requires.1, a.self.now.parameters.run_most)
