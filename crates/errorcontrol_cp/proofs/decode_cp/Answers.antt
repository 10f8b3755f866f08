-- The chain is by the kind's numbers.
use mathlib.Core.Path.{sym, ◌∙◌}
use lib.ListN.{length}
use Rattle.errorcontrol_cp.proofs.Refusals.{receive_is}
use Rattle.errorcontrol_cp.proofs.Chains.{receives}
use Rattle.errorcontrol_cp.proofs.decode_cp.Goals as goal

pub returns : goal.returns
returns c =
    let a = c.args in
    let p = c.in_ok-params.params in
    let is = c.in_ok-params.ensures in
    receives a.kind p.block p.word p.air p.step a.start is a.air.now a.word.now a.trellis.now
    (receive_is a.kind p.block p.word p.air p.step (length a.air.now) (length a.word.now) (length a.trellis.now) is ∙ sym c.receive_refusal.ensures ∙ c.in_ok-receive_refusal.was)
    c.receive.ensures
