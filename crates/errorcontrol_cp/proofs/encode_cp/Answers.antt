-- The chain is by the kind's numbers.
use mathlib.Core.Path.{sym, ◌∙◌}
use lib.ListN.{length}
use lib.Seq.{length-take-le}
use Rattle.base.proofs.BitLaws.{bits_only_whole}
use Rattle.stages.proofs.Entries.{sends_done}
use Rattle.errorcontrol_cp.proofs.Refusals.{send_is, send_fits}
use Rattle.errorcontrol_cp.proofs.Chains.{sent_over}
use Rattle.errorcontrol_cp.proofs.encode_cp.Goals as goal

pub send-requires : goal.send-requires
send-requires c =
    let a = c.args in
    let p = c.in_ok-params.params in
    let fits = send_fits p.block p.air a.«data».now (length a.air.now) (sym c.send_refusal.ensures ∙ c.in_ok-send_refusal.was) in (
      length-take-le p.block a.«data».now fits.long,
      bits_only_whole p.block a.«data».now fits.long ∙ fits.plain,
      length-take-le p.air a.air.now fits.room,
    )

pub returns : goal.returns
returns c =
    let a = c.args in
    let p = c.in_ok-params.params in
    let is = c.in_ok-params.ensures in
    sends_done (send_is a.kind p.block p.word p.air p.step a.«data».now (length a.air.now) is ∙ sym c.send_refusal.ensures ∙ c.in_ok-send_refusal.was)
    (sent_over a.kind p.block p.word p.air p.step a.start is a.«data».now a.air.now c.send.new.air c.send.ensures)
