-- One state more is filled.
use mathlib.Core.Path.{◌∙◌}
use native.Mathlib.Omega.{arith}
use lib.ListN.{length-set}
use Rattle.viterbi.specs.private.Scores.{first_way}
use Rattle.viterbi.proofs.Sixteen.{filled_more}
use Rattle.viterbi.proofs.Ways.{first_way_fits, first_way_is}
use Rattle.viterbi.proofs.inner.first_ways.Goals as goal

pub overflow_add-r : goal.overflow_add-r
overflow_add-r c = first_way_fits c.args.m c.args.b c.requires.0 c.requires.1 c.loop-s.s (omega arith)

pub loop-s-preserved : goal.loop-s-preserved
loop-s-preserved c =
    let a = c.args in
    let l = c.loop-s in (
      omega arith,
      length-set l.r l.s _ ∙ l.invariant.1,
      filled_more (first_way a.m a.b) l.r l.s _ (omega arith) l.invariant.2 (first_way_is a.m a.b c.requires.0 c.requires.1 l.s (omega arith)),
    )
