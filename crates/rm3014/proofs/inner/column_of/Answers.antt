use Rattle.std.proofs.Common.{rules, tests, ◌==◌}
use Rattle.std.proofs.lemmas.Iterator.{YieldsList-from_slice}
use Rattle.std.proofs.lemmas.Iterator.Search.{position_from_yields_List}
use Rattle.base.specs.Places.{tabulate}
use Rattle.rm3014.specs.Code.{table, columns}
use Rattle.rm3014.proofs.inner.column_of.Goals as goal

pub returns : goal.returns
unfolding columns table tabulate
returns c = position_from_yields_List (λ y. y == c.args.sum) _ _ _ c.position.ensures.ran (YieldsList-from_slice columns c.iter.ensures.rest) (λ x b q k. search (rules, tests))
