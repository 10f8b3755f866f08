use mathlib.Core.Path.{sym, ◌∙◌}
use Rattle.errorcontrol_aach.proofs.Chains.{receive_accepted}
use Rattle.errorcontrol_aach.proofs.decode_aach.Goals as goal

pub receive-requires : goal.receive-requires
receive-requires c = receive_accepted c.args.air.now (sym c.receive_refusal.ensures ∙ c.in_ok-receive_refusal.was)
