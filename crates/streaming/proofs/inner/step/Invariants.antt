use Rattle.std.proofs.Common.{◌≡◌, ◌-◌, length}
use Rattle.streaming.specs.private.Stepping.{Reached}
use Rattle.streaming.proofs.inner.step.Given as goal

abbrev pub invariant-loop-next : goal.invariant-loop-next
invariant-loop-next l = Reached l.s l.count l.p l.out × (length l.out ≡ length l.initial.out)

abbrev pub decreases-loop-next : goal.decreases-loop-next
decreases-loop-next l = length l.s - l.p.taken
