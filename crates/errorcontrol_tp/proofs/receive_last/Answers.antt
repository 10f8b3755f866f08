use mathlib.Core.Path.{sym, ◌∙◌}
use Rattle.errorcontrol_tp.proofs.Chains.{received_slot, last_made}
use Rattle.errorcontrol_tp.proofs.receive_last.Goals as goal

pub returns : goal.returns
returns c =
    let a = c.args in
    let h = c.hear-heard in
    let none = sym c.receive_refusal.ensures ∙ c.in_ok-receive_refusal.was in
    received_slot a.count a.start a.air.now _ _ a.codec.now a.trellis.now h.result c.deliver.result c.deliver.new.codec h.new.trellis
    none (last_made a.count a.air.now c.copy_from_slice.new.self c.requires c.copy_from_slice.ensures.after) c.take_off_air.ensures h.ensures
    c.deliver.ensures.0 c.deliver.ensures.1
