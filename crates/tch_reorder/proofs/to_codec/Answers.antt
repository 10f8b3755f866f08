use native.Mathlib.Omega.{arith}
use lib.ListN.{length-set}
use Rattle.base.proofs.Moves.{scatter_none}
use Rattle.tch_reorder.specs.Order.{order}
use Rattle.tch_reorder.proofs.Laws.{position_low, position_high, codec_more}
use Rattle.tch_reorder.proofs.to_codec.Goals as goal

pub loop-j-init : goal.loop-j-init
loop-j-init c = scatter_none _ _ _

pub overflow_sub-at : goal.overflow_sub-at
unfolding order
overflow_sub-at c = omega (arith, position_low c.loop-j.j (omega arith))

pub bounds-codec-at-in-loop-j : goal.bounds-codec-at-in-loop-j
unfolding order
bounds-codec-at-in-loop-j c = simp length-set (omega (arith, position_high c.loop-j.j (omega arith)))

pub loop-j-preserved : goal.loop-j-preserved
unfolding order
loop-j-preserved c =
    let l = c.loop-j in
    let a = c.args in
    codec_more l.j (omega arith) a.channel.now a.codec.now l.codec l.invariant
