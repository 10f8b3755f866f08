use Rattle.std.proofs.Common.{refl, ◌∙◌, arith}
use Rattle.streaming.proofs.Stepping.{reached_none}
use Rattle.streaming.proofs.inner.step.Goals as goal

pub loop-next-init : goal.loop-next-init
loop-next-init c = (reached_none _ _ _, refl)

pub loop-next-smaller : goal.loop-next-smaller
loop-next-smaller c =
    let further = c.in-Some.ensures _ c.loop-next.invariant.0 in
    omega (arith, further.forth, further.reached.taken_in)

pub loop-next-preserved : goal.loop-next-preserved
loop-next-preserved c = ((c.in-Some.ensures _ c.loop-next.invariant.0).reached, c.next.auto.out ∙ c.loop-next.invariant.1)
