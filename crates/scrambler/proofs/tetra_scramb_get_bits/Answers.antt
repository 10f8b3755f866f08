use Prim.Native.Nat.{ℕ, ◌/◌, ◌%◌, ◌^◌}
use mathlib.Core.Path.{◌≡◌, sym, ap, ap₂, ◌∙◌}
use mathlib.Core.List.{List}
use native.Mathlib.Omega.{arith}
use lib.ListN.{length, set}
use Rattle.base.specs.Places.{tabulate, written}
use Rattle.base.proofs.Lists.{tabulate_length, write_none, write_more, written_whole}
use Rattle.scrambler.specs.Scrambling.{output}
use Rattle.scrambler.proofs.Outputs.{nexts_none}
use Rattle.scrambler.proofs.AtOnce.{register_more, register_next, register_output}
use Rattle.scrambler.proofs.tetra_scramb_get_bits.Goals as goal

pub loop-i-init : goal.loop-i-init
loop-i-init c =
    let a = c.args in
    (sym (nexts_none a.lfsr_init), write_none (output a.lfsr_init) a.out.now)

pub loop-i-preserved : goal.loop-i-preserved
loop-i-preserved c =
    let a = c.args in
    let l = c.loop-i in
    let x = a.lfsr_init in
    let m = c.at-lfsr in
    let r = register_more x l.lfsr.bits m.result.bits l.i l.invariant.0 m.ensures.0 m.ensures.1 in
    let v = c.output.ensures ∙ ap (λ (n : ℕ). n / 2 ^ (l.i % 32) % 2) r ∙ register_output x l.i (omega arith) in (
      r ∙ register_next x l.i,
      ap₂ (λ (s : List ℕ) (b : ℕ). set s l.i b) l.invariant.1 v ∙ write_more (output x) l.i a.out.now (omega arith),
    )

pub returns : goal.returns
returns c =
    let a = c.args in
    let l = c.loop-i in
    let x = a.lfsr_init in
    let e : l.i ≡ length a.out.now = omega arith in
    l.invariant.1 ∙ ap (λ (i : ℕ). written (tabulate (output x) i) a.out.now) e
    ∙ written_whole (tabulate (output x) (length a.out.now)) a.out.now (tabulate_length (output x) (length a.out.now))
