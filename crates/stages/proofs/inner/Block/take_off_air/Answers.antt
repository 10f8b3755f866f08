-- The coded symbols stand in the work array, and go from there to the kept places.
use lib.ListN.{replicate}
use Rattle.stages.proofs.Calls.{mother_is}
use Rattle.stages.proofs.inner.Block.take_off_air.Goals as goal

pub returns : goal.returns
returns c =
    let t = c.take_block_off_air in
    let p = c.depuncture in
    mother_is c.args.self.mode c.args.self.count c.args.self.step c.args.self.start c.args.air.now (replicate 432 0) t.new.coded c.args.mother.now p.new.mother c.args.self.few
    t.ensures p.ensures
