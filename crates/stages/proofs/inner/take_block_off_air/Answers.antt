use native.Mathlib.Omega.{arith}
use lib.ListN.{replicate}
use Rattle.stages.proofs.Calls.{fetched_is}
use Rattle.stages.proofs.inner.take_block_off_air.Goals as goal

-- The used air symbols are descrambled in the work array and fetched from there.
pub returns : goal.returns
returns c =
    let d = c.descramble in
    let b = c.block_deinterleave in
    fetched_is c.args.k c.args.a c.args.start c.args.air.now (replicate 432 0) d.new.plain c.args.coded.now b.new.output
    (omega (arith, c.requires)) c.requires.1 c.requires.2 c.requires.0 c.requires.3 c.requires.4 d.ensures b.ensures.1
