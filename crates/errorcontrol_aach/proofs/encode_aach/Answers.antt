use mathlib.Core.Path.{sym, ◌∙◌}
use lib.ListN.{length}
use Rattle.errorcontrol_aach.proofs.Chains.{send_accepted}
use Rattle.errorcontrol_aach.proofs.encode_aach.Goals as goal

pub send-requires : goal.send-requires
send-requires c =
    let a = c.args in
    send_accepted a.data.now (length a.air.now) (sym c.send_refusal.ensures ∙ c.in_ok-send_refusal.was)
