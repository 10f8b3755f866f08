use borrow.Author.Rules.{rules}
use mathlib.Core.Path.{sym}
use native.Mathlib.Omega.{arith}
use Rattle.base.specs.Places.{tabulate}
use Rattle.crc16.proofs.Steps.{register_none, packed_more}
use Rattle.crc16.proofs.packed_bits.Goals as goal

pub loop-i-init : goal.loop-i-init
unfolding tabulate
loop-i-init c = (search rules, sym (register_none c.args.crc))

pub loop-i-preserved : goal.loop-i-preserved
loop-i-preserved c =
    let a = c.args in
    let l = c.loop-i in (
      omega arith,
      packed_more a.crc l.reg c.add_bit-reg.result l.i c.get_nth_bit.result a.input.now l.invariant.1
          c.get_nth_bit.ensures c.add_bit-reg.ensures,
    )
