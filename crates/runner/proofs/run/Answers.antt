-- The story that the turns tell, and that each counts a record or keeps more.
use Rattle.std.proofs.Common.{refl, arith}
use Rattle.runner.proofs.Loop.{ready_first, story_first, story_on, ready_on, tells, onward, falls}
use Rattle.runner.proofs.run.Goals as goal

pub loop-meter-init : goal.loop-meter-init
loop-meter-init g c =
    (refl, refl, λ w. ready_first c.first-held.ensures, story_first _ _ c.args.buf.now c.first-held.ensures)

pub loop-meter-smaller : goal.loop-meter-smaller
loop-meter-smaller g c =
    let on = c.goes.ensures.0 c.loop-meter-test.true in
    falls c.loop-meter.held c.turn-held.result on (c.loop-meter.invariant.2 on) (onward c.loop-meter.held on c.turn-held.ensures)

pub loop-meter-preserved : goal.loop-meter-preserved
loop-meter-preserved g c =
    let on = c.goes.ensures.0 c.loop-meter-test.true in (
      omega arith,
      omega arith,
      ready_on c.loop-meter.held on c.turn-held.ensures,
      story_on c.loop-meter.held on c.turn-held.ensures c.read_some-got.ensures c.loop-meter.invariant.3,
    )

pub returns-clause-told : goal.returns-clause-told
returns-clause-told g c = tells c.loop-meter.invariant.3
