use Rattle.stages.proofs.Calls.{punctured_whole}
use Rattle.stages.proofs.inner.puncture.Goals as goal

pub returns : goal.returns
returns c =
    let p = c.get_punctured_rate in
    punctured_whole c.args.mode c.args.mother.now c.args.coded.now p.new.output c.requires.0 c.requires.1 c.requires.2 p.ensures.1
