use native.Mathlib.Omega.{arith}
use lib.ListN.{length, replicate}
use Rattle.stages.proofs.Calls.{matrix_place_is}
use Rattle.stages.proofs.inner.Matrix.take_off_air.Goals as goal

-- The used air symbols are descrambled in the work array and fetched from there.
pub returns : goal.returns
returns c =
    let d = c.descramble in
    let m = c.matrix_deinterleave in
    matrix_place_is c.args.self.lines c.args.self.columns c.args.self.start c.args.air.now (replicate 432 0) d.new.plain c.args.block.now m.new.output
    c.args.self.high c.args.self.wide c.args.self.limit (length c.args.block.now) c.requires.2 (omega (arith, c.requires)) (omega (arith, c.requires)) c.requires.2 d.ensures m.ensures.1
