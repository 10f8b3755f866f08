use mathlib.Core.Path.{ap, ◌∙◌}
use native.Mathlib.Omega.{arith}
use lib.ListN.{get_or}
use Rattle.scrambler.specs.Scrambling.{descrambled_symbol}
use Rattle.scrambler.proofs.Fours.{begun_long, begun_one, begun_done}
use Rattle.scrambler.proofs.tetra_descramb_bits.Goals as goal

pub loop-i-preserved : goal.loop-i-preserved
loop-i-preserved c =
    let l = c.loop-i in
    let a = c.args in
    let m = c.at-lfsr in
    let v = c.descramble_symbol.ensures ∙ ap (descrambled_symbol (get_or l.block l.i 0)) c.output.ensures in
    λ b g. begun_one a.lfsr_init l.i l.lfsr.bits m.result.bits c.descramble_symbol.result b l.block (omega arith)
    (omega (arith, (l.invariant b g).long)) (l.invariant b g) m.ensures.0 m.ensures.1 v

pub returns : goal.returns
returns c =
    let a = c.args in
    let l = c.loop-i in
    let f = c.descramble_fours-lfsr in
    let g = l.invariant a.block.now (begun_long a.lfsr_init f.result.bits a.block.now _ f.ensures) in
    begun_done a.lfsr_init l.i l.lfsr.bits a.block.now l.block (omega (arith, g.long)) g
