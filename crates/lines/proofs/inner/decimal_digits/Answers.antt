-- At each turn a digit goes before the others; at the end one is left.
use Rattle.std.proofs.Common.{ℕ, ◌++◌, ◌-◌, ◌/◌, suc, drop, sym, ap, ◌∙◌, arith}
use lib.ListN.{set, length-set}
use Rattle.lines.specs.Text.{decimal}
use Rattle.lines.proofs.Laws.{decimal_turn, decimal_end}
use Rattle.lines.proofs.inner.decimal_digits.Goals as goal

pub loop-rest-preserved : goal.loop-rest-preserved
loop-rest-preserved c =
    let l = c.loop-rest in
    let turn = decimal_turn c.args.n l.rest l.at l.digits (omega arith) l.invariant.2 (omega arith) l.invariant.3 in (
      omega arith,
      length-set l.digits l.at _ ∙ l.invariant.1,
      turn.0,
      turn.1 ∙ ap (λ (x : ℕ). decimal (l.rest / 10) ++ drop (suc (l.at - 1)) (set l.digits l.at x)) (sym c.sign_of.ensures),
    )

pub returns : goal.returns
returns c =
    let l = c.loop-rest in (
      ap (λ (x : ℕ). drop l.at (set l.digits l.at x)) c.sign_of-2.ensures
          ∙ decimal_end c.args.n l.rest l.at l.digits c.loop-rest-test.false (omega arith) l.invariant.3,
      omega arith,
    )
