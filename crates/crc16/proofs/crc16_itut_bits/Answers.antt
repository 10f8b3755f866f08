use mathlib.Core.Path.{sym, ap, ◌∙◌}
use native.Mathlib.Omega.{arith}
use lib.ListN.{take}
use lib.Seq.{take_all}
use Rattle.std.proofs.lemmas.List.{take_min}
use Rattle.crc16.specs.Crc.{register}
use Rattle.crc16.proofs.Steps.{register_none, entry_more}
use Rattle.crc16.proofs.crc16_itut_bits.Goals as goal

pub loop-bit-init : goal.loop-bit-init
loop-bit-init c = (omega arith, sym (register_none c.args.crc))

pub loop-bit-preserved : goal.loop-bit-preserved
loop-bit-preserved c =
    let a = c.args in
    let l = c.loop-bit in
    let bits = take c.min.result a.input.now in
    (omega arith, entry_more a.crc l.reg c.add_bit-reg.result l.bit-index bits c.loop-bit-test.true l.invariant.1 c.add_bit-reg.ensures)

pub returns : goal.returns
returns c =
    let a = c.args in
    let l = c.loop-bit in
    let bits = take c.min.result a.input.now in
    l.invariant.1 ∙ ap (register a.crc) (take_all l.bit-index bits c.loop-bit-test.false
    ∙ ap (λ (n : _). take n a.input.now) c.min.ensures ∙ take_min a.number_bits a.input.now)
