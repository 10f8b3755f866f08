use mathlib.Core.Path.{ap, ◌∙◌}
use Rattle.std.specs.Result.{is_ok}
use Rattle.stages.proofs.Calls.{scramble_none}
use Rattle.stages.proofs.inner.scramble.Goals as goal

pub unwrap-requires : goal.unwrap-requires
unwrap-requires c = ap is_ok (c.tetra_scramb_bits.ensures.0 ∙ scramble_none c.args.block.now c.requires)
