use mathlib.Core.Path.{ap, ◌∙◌}
use mathlib.Core.Bool.{Bool}
use native.Mathlib.Omega.{arith}
use lib.Dec.{ltb}
use lib.ListN.{get_or}
use Rattle.base.specs.Bits.{both}
use Rattle.base.proofs.BitLaws.{is_bit_or, bits_only_more}
use Rattle.base.proofs.inner.bits_only.Goals as goal

pub loop-entry-preserved : goal.loop-entry-preserved
loop-entry-preserved c =
    let s = c.args.s.now in
    let l = c.loop-entry in
    let entry = get_or s l.entry-index 0 in (
      omega arith,
      is_bit_or l.all entry ∙ ap (λ (t : Bool). both t (ltb entry 2)) l.invariant.1 ∙ bits_only_more l.entry-index s (omega arith),
    )
