use Rattle.viterbi.proofs.Branches.{classes_all}
use Rattle.viterbi.proofs.inner.symbol_classes.Goals as goal

pub returns : goal.returns
returns c = classes_all
