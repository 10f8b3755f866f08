use mathlib.Core.Path.{◌∙◌}
use lib.IntN.{pos, ◌+ℤ◌}
use lib.ListN.{get_or, length-set}
use native.Mathlib.Omega.{arith}
use Rattle.viterbi.proofs.Sixteen.{filled_more}
use Rattle.viterbi.proofs.Branches.{four_fits, four_is}
use Rattle.viterbi.proofs.inner.sums.Goals as goal

pub overflow_add-r-in-loop-s-2 : goal.overflow_add-r-in-loop-s-2
overflow_add-r-in-loop-s-2 c =
    let s = c.loop-s.s in
    four_fits (get_or c.args.a s (pos 0)) (get_or c.args.b s (pos 0)) (get_or c.args.c s (pos 0)) (get_or c.args.d s (pos 0))
    (c.requires.0 s (omega arith)) (c.requires.1 s (omega arith)) (c.requires.2 s (omega arith)) (c.requires.3 s (omega arith))

pub loop-s-preserved : goal.loop-s-preserved
loop-s-preserved c =
    let l = c.loop-s in (
      omega arith,
      length-set l.r l.s _ ∙ l.invariant.1,
      filled_more (λ j. get_or c.args.a j (pos 0) +ℤ get_or c.args.b j (pos 0) +ℤ get_or c.args.c j (pos 0) +ℤ get_or c.args.d j (pos 0))
          l.r l.s _ (omega arith) l.invariant.2
          (four_is (get_or c.args.a l.s (pos 0)) (get_or c.args.b l.s (pos 0)) (get_or c.args.c l.s (pos 0)) (get_or c.args.d l.s (pos 0))
          (c.requires.0 l.s (omega arith)) (c.requires.1 l.s (omega arith)) (c.requires.2 l.s (omega arith)) (c.requires.3 l.s (omega arith))),
    )
