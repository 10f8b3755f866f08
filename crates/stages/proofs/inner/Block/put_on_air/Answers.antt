use mathlib.Core.Path.{ap, ◌∙◌}
use native.Mathlib.Omega.{arith}
use lib.ListN.{replicate}
use Rattle.scrambler.specs.Scrambling.{scrambled}
use Rattle.stages.proofs.Calls.{moved_is, moved_bits}
use Rattle.stages.proofs.inner.Block.put_on_air.Goals as goal

-- The kept symbols stand in the work array, and go from there to the target.
pub scramble-requires : goal.scramble-requires
scramble-requires c =
    let p = c.puncture in
    let b = c.block_interleave in
    moved_bits c.args.self.mode c.args.self.count c.args.self.step c.args.mother.now (replicate 432 0) p.new.coded c.args.air.now b.new.output
    (omega (arith, c.args.self.few)) c.args.self.small c.args.self.alone c.args.self.few c.requires.2 p.ensures b.ensures.1 c.requires.1

pub returns : goal.returns
returns c =
    let p = c.puncture in
    let b = c.block_interleave in
    c.scramble.ensures
    ∙ ap (scrambled c.args.self.start) (moved_is c.args.self.mode c.args.self.count c.args.self.step c.args.mother.now (replicate 432 0) p.new.coded c.args.air.now b.new.output
    (omega (arith, c.args.self.few)) c.args.self.small c.args.self.alone c.args.self.few c.requires.2 p.ensures b.ensures.1)
