use mathlib.Core.Path.{◌∙◌}
use Rattle.rm3014.proofs.CodeLaws.{data_column, own_column_lem}
use Rattle.rm3014.proofs.col_syndrome.Goals as goal

pub returns-then-k-lt14 : goal.returns-then-k-lt14
returns-then-k-lt14 c = c.row_syndrome.ensures ∙ data_column c.args.k c.if-k-lt14.true

pub returns : goal.returns
returns c = own_column_lem c.args.k c.if-k-lt14.false c.requires
