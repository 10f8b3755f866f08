use mathlib.Core.Path.{sym, ◌∙◌}
use lib.ListN.{length}
use Rattle.stages.proofs.Entries.{sends_done}
use Rattle.errorcontrol_tp.proofs.Refusals.{send_accepted}
use Rattle.errorcontrol_tp.proofs.Chains.{copied_over}
use Rattle.errorcontrol_tp.proofs.send_last.Goals as goal

pub send-symbols-requires : goal.send-symbols-requires
send-symbols-requires c =
    let a = c.args in
    let ok = send_accepted a.count a.codec.now (length a.air.now) (sym c.send_refusal.ensures ∙ c.in_ok-send_refusal.was) in
    (ok.long, ok.plain)

pub returns : goal.returns
returns c =
    let a = c.args in
    sends_done (sym c.send_refusal.ensures ∙ c.in_ok-send_refusal.was)
    (copied_over a.count a.start a.codec.now c.send-symbols.result a.air.now c.copy_from_slice.new.self c.requires.1 c.send-symbols.ensures c.copy_from_slice.ensures.after)
