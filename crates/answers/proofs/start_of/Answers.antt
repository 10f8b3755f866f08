use native.Mathlib.Omega.{arith}
use Rattle.answers.specs.Answering.{start_of}
use Rattle.answers.proofs.start_of.Goals as goal

pub returns : goal.returns
unfolding start_of
returns c = omega (arith, c.from_be_bytes.ensures)
