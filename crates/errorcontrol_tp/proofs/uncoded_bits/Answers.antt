use borrow.Author.Rules.{rules}
use Prim.Native.Nat.{ℕ}
use mathlib.Core.Path.{◌≡◌, ap, ap₂, ◌∙◌}
use mathlib.Core.List.{List}
use lib.ListN.{get_or, set, replicate, length-replicate}
use Rattle.base.specs.Places.{written, tabulate}
use Rattle.base.proofs.Lists.{write_none, write_more, written_whole, tabulate_length}
use Rattle.errorcontrol_tp.specs.Receiving.{read_bit}
use Rattle.errorcontrol_tp.proofs.Parts.{read_map}
use native.Mathlib.Omega.{arith}
use Rattle.errorcontrol_tp.proofs.uncoded_bits.Goals as goal

pub loop-i-init : goal.loop-i-init
loop-i-init c = (omega arith, write_none (λ j. read_bit (get_or c.args.block.now j 0)) (replicate 102 0))

pub loop-i-preserved : goal.loop-i-preserved
loop-i-preserved c =
    let l = c.loop-i in
    let block = c.args.block.now in (
      omega arith,
      ap₂ (λ (t : List ℕ) (x : ℕ). set t l.i x) l.invariant.1 c.read_bit.ensures
          ∙ write_more (λ j. read_bit (get_or block j 0)) l.i (replicate 102 0) (omega (arith, length-replicate {A = ℕ} 102 0)),
    )

pub returns : goal.returns
returns c =
    let l = c.loop-i in
    let block = c.args.block.now in
    let e : l.i ≡ 102 = omega arith in
    l.invariant.1 ∙ ap (λ (n : ℕ). written (tabulate (λ j. read_bit (get_or block j 0)) n) (replicate 102 0)) e
    ∙ written_whole (tabulate (λ j. read_bit (get_or block j 0)) 102) (replicate 102 0) (tabulate_length (λ j. read_bit (get_or block j 0)) 102)
    ∙ read_map 102 block (search rules)
