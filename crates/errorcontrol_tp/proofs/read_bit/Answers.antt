use mathlib.Core.Path.{◌∙◌}
use lib.Dec.{eqb}
use Rattle.errorcontrol_tp.proofs.Parts.{byte_when}
use Rattle.errorcontrol_tp.proofs.read_bit.Goals as goal

pub returns : goal.returns
returns c = c.from.ensures ∙ byte_when (eqb c.args.symbol 1)
