use Rattle.answers.specs.private.Chains.{speech_answer}
use Rattle.answers.proofs.slot.Goals as goal

pub returns : goal.returns
unfolding speech_answer
returns c = c.decode_tp.ensures.answered
