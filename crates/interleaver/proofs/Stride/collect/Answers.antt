use mathlib.Core.Path.{refl, ap, ◌∙◌}
use lib.ListN.{length-set}
use Rattle.base.proofs.Lists.{write_none}
use Rattle.interleaver.specs.private.Walk.{onward, walk}
use Rattle.interleaver.proofs.Walk.{walk_none, walk_more, collect_more}
use native.Mathlib.Omega.{arith}
use Rattle.interleaver.proofs.Stride.collect.Goals as goal

pub loop-i-init : goal.loop-i-init
loop-i-init c = (omega arith, refl, walk_none _ _ _, write_none _ _)

pub loop-i-preserved : goal.loop-i-preserved
loop-i-preserved c =
    let l = c.loop-i in
    let a = c.args in
    let place = walk a.self.start a.self.step a.self.count in (
      omega arith,
      simp length-set l.invariant.1,
      c.advance-at.ensures ∙ ap (onward a.self.step a.self.count) l.invariant.2 ∙ walk_more a.self.start a.self.step a.self.count l.i,
      collect_more place l.i l.at a.input.now a.output.now l.output l.invariant.2 l.invariant.3 (omega arith),
    )
