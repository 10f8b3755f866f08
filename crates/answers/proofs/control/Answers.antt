use Rattle.answers.specs.private.Chains.{control_answer}
use Rattle.answers.proofs.control.Goals as goal

pub returns : goal.returns
unfolding control_answer
returns c = c.decode_cp.ensures.answered
