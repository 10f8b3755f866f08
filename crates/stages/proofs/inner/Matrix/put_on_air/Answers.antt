use mathlib.Core.Path.{sym, ap, ◌∙◌, subst}
use Rattle.base.specs.Bits.{Bits}
use Rattle.scrambler.specs.Scrambling.{scrambled}
use Rattle.stages.proofs.Calls.{matrix_whole, matrix_bits}
use Rattle.stages.proofs.inner.Matrix.put_on_air.Goals as goal

pub scramble-requires : goal.scramble-requires
scramble-requires c =
    let m = c.matrix_interleave in
    subst Bits
    (sym (matrix_whole c.args.self.lines c.args.self.columns c.args.block.now c.args.air.now m.new.output c.args.self.high c.args.self.wide c.args.self.limit c.requires.0 c.requires.2 m.ensures.1))
    (matrix_bits c.args.self.lines c.args.self.columns c.args.block.now c.requires.1)

pub returns : goal.returns
returns c =
    let m = c.matrix_interleave in
    c.scramble.ensures
    ∙ ap (scrambled c.args.self.start)
    (matrix_whole c.args.self.lines c.args.self.columns c.args.block.now c.args.air.now m.new.output c.args.self.high c.args.self.wide c.args.self.limit c.requires.0 c.requires.2 m.ensures.1)
