use mathlib.Core.Bool.{true, false}
use mathlib.Core.Path.{sym, ◌∙◌}
use native.Mathlib.Omega.{arith}
use Rattle.errorcontrol_aach.proofs.Chains.{receive_by}
use Rattle.errorcontrol_aach.proofs.receive_refusal.Goals as goal

pub returns-then-bits_only : goal.returns-then-bits_only
returns-then-bits_only c = receive_by c.args.air.now true (omega arith) (sym c.if-bits_only.true ∙ c.bits_only.ensures)

pub returns : goal.returns
returns c = receive_by c.args.air.now false (omega arith) (sym c.if-bits_only.false ∙ c.bits_only.ensures)
