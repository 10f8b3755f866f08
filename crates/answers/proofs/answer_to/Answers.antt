use Rattle.std.proofs.Common.{refl, arith}
use Rattle.answers.proofs.Laws.{answer_kind, answer_short, answer_chain}
use Rattle.answers.proofs.answer_to.Goals as goal

pub returns-in_default : goal.returns-in_default
returns-in_default c = answer_kind _ _ refl c.in_default.ensures

pub returns-then-body-lt-START_BYTES : goal.returns-then-body-lt-START_BYTES
returns-then-body-lt-START_BYTES c = answer_short _ _ c.in-Some.ensures.0 (λ z. omega (arith, z, c.in-Some.ensures.1)) c.if-body-lt-START_BYTES.true

pub returns : goal.returns
returns c = answer_chain _ _ c.in-Some.ensures.0 (λ z. omega (arith, z, c.in-Some.ensures.1)) c.if-body-lt-START_BYTES.false c.start_of.ensures c.decode.ensures
