use native.Mathlib.Omega.{arith}
use Rattle.answers.proofs.Laws.{chain_access, chain_slot, chain_half, chain_control, heard_in, judged_in}
use Rattle.answers.proofs.decode.Goals as goal

pub returns-in-5 : goal.returns-in-5
returns-in-5 c = chain_access _ _ _ c.in-5.is c.decode_aach.ensures (judged_in c.decode_aach.result c.map.result c.map.ensures.cases)

pub returns-in-6 : goal.returns-in-6
returns-in-6 c = chain_slot _ _ _ c.in-6.is c.slot.ensures (heard_in c.slot.result c.map-in-6.result c.map-in-6.ensures.cases)

pub returns-in-7 : goal.returns-in-7
returns-in-7 c = chain_half _ _ _ c.in-7.is c.half.ensures (heard_in c.half.result c.map-in-7.result c.map-in-7.ensures.cases)

pub returns-in_default : goal.returns-in_default
returns-in_default c = chain_control _ _ _ (λ e. omega arith) (λ e. omega arith) (λ e. omega arith) c.control.ensures (heard_in c.control.result c.map-in_default.result c.map-in_default.ensures.cases)
