use mathlib.Core.Path.{refl, sym}
use Prim.Native.Nat.{◌+◌, ◌*◌}
use native.Mathlib.Omega.{arith}
use lib.ListN.{get_or}
use Rattle.base.proofs.Lists.{write_none}
use Rattle.scrambler.specs.Scrambling.{output, descrambled_symbol}
use Rattle.scrambler.proofs.Outputs.{nexts_none}
use Rattle.scrambler.proofs.Fours.{begun_more, rows_spread}
use Rattle.scrambler.proofs.Register.descramble_fours.Goals as goal

pub loop-q-init : goal.loop-q-init
loop-q-init c =
    let a = c.args in
    let x = a.self.bits in
    record { register = sym (nexts_none x); long = refl; entries = write_none (λ j. descrambled_symbol (get_or a.block.now j 0) (output x j)) a.block.now }

pub loop-q-preserved : goal.loop-q-preserved
loop-q-preserved c =
    let l = c.loop-q in
    let a = c.args in
    let m = c.at-lfsr in
    let o = c.outputs in
    begun_more a.self.bits (4 * l.q) (4 * (l.q + 1)) l.lfsr.bits m.result.bits o.result a.block.now l.block _ (omega arith) (omega arith) (omega arith) l.invariant
    m.ensures.0 m.ensures.1 o.ensures c.descramble_four.ensures

pub outputs-requires : goal.outputs-requires
outputs-requires c = rows_spread
