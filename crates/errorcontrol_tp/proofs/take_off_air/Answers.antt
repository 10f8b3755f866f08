use borrow.Author.Rules.{rules}
use Rattle.errorcontrol_tp.proofs.Chains.{block_came}
use Rattle.errorcontrol_tp.proofs.take_off_air.Goals as goal

pub returns : goal.returns
returns c = block_came c.args.start c.args.air.now c.take_off_air.new.block (search rules) c.take_off_air.ensures
