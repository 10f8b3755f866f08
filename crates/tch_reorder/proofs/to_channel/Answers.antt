use native.Mathlib.Omega.{arith}
use Rattle.base.proofs.Lists.{write_none}
use Rattle.tch_reorder.specs.Order.{order}
use Rattle.tch_reorder.proofs.Laws.{position_low, position_high, channel_more}
use Rattle.tch_reorder.proofs.to_channel.Goals as goal

pub loop-i-init : goal.loop-i-init
loop-i-init c = write_none _ _

pub overflow_sub-at : goal.overflow_sub-at
unfolding order
overflow_sub-at c = omega (arith, position_low c.loop-i.i (omega arith))

pub bounds-codec-at-in-loop-i : goal.bounds-codec-at-in-loop-i
unfolding order
bounds-codec-at-in-loop-i c = omega (arith, position_high c.loop-i.i (omega arith))

pub loop-i-preserved : goal.loop-i-preserved
unfolding order
loop-i-preserved c =
    let l = c.loop-i in
    let a = c.args in
    channel_more l.i (omega arith) a.codec.now a.channel.now l.channel l.invariant c.requires.1
