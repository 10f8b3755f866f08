use mathlib.Core.Path.{refl}
use lib.ListN.{replicate}
use Rattle.errorcontrol_tp.proofs.Chains.{heard_of}
use Rattle.errorcontrol_tp.proofs.hear.Goals as goal

pub returns : goal.returns
returns c =
    let m = c.mother_symbols in
    let d = c.speech in
    let h = heard_of c.args.block.now m.new.mother (replicate 184 0) d.new.target c.args.trellis.now d.new.trellis d.result m.ensures refl d.ensures in
    record { word_is = h.0; counts = h.1; clears = d.ensures.clears }
