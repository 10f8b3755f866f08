use Rattle.answers.specs.private.Chains.{speech_answer}
use Rattle.answers.proofs.half.Goals as goal

pub returns : goal.returns
unfolding speech_answer
returns c = c.decode_tp_half.ensures.answered
