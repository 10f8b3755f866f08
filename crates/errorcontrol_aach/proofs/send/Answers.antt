use mathlib.Core.Path.{ap, ◌∙◌}
use native.Mathlib.Omega.{arith}
use Rattle.rm3014.specs.Code.{code_word}
use Rattle.errorcontrol_aach.proofs.Chains.{wrote_length, wrote_bits, sent_made}
use Rattle.errorcontrol_aach.proofs.send.Goals as goal

pub slice_bounds-scramble-end : goal.slice_bounds-scramble-end
slice_bounds-scramble-end c =
    let ww = c.write_word in
    omega (arith, wrote_length c.code_word-word.result c.args.air.now ww.new.air c.requires.1 ww.ensures)

pub scramble-requires : goal.scramble-requires
scramble-requires c =
    let a = c.args in
    let w = c.code_word-word in
    let ww = c.write_word in
    wrote_bits w.result a.air.now ww.new.air c.requires.1 ww.ensures

pub returns : goal.returns
returns c =
    let a = c.args in
    let n = c.number_of in
    let w = c.code_word-word in
    let ww = c.write_word in
    let t = c.scramble in
    sent_made w.result a.air.now ww.new.air c.requires.1 ww.ensures a.start a.data.now t.new.block (w.ensures ∙ ap code_word n.ensures.0) t.ensures
