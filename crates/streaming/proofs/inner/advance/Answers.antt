use Rattle.streaming.proofs.Keeping.{advanced, kept}
use Rattle.streaming.proofs.inner.advance.Goals as goal

pub returns : goal.returns
returns c =
    let step = c.step-p in
    advanced _ _ step.ensures c.copy_within.new.self (kept c.args.bytes.now step.result.taken c.copy_within.ensures.after) step.auto.out
