-- One state more is filled, with the better of its two scores.
use mathlib.Core.Path.{◌∙◌}
use native.Mathlib.Omega.{arith}
use lib.IntN.{pos}
use lib.ListN.{get_or, length-set}
use Rattle.viterbi.specs.private.Scores.{better}
use Rattle.viterbi.proofs.Signed.{fits}
use Rattle.viterbi.proofs.Sixteen.{filled_more}
use Rattle.viterbi.proofs.Ways.{takes_second, takes_first}
use Rattle.viterbi.proofs.inner.lessers.Goals.{then-q-s, else-q-s}
use Rattle.viterbi.proofs.inner.lessers.Goals as goal

pub loop-s-preserved : goal.loop-s-preserved
loop-s-preserved c =
    let a = c.args in
    let l = c.loop-s in
    let p = get_or a.p l.s (pos 0) in
    let q = get_or a.q l.s (pos 0) in
    let fp = fits p 31000 (c.requires.0 l.s (omega arith)) (omega arith) in
    let fq = fits q 31000 (c.requires.1 l.s (omega arith)) (omega arith) in (
      omega arith,
      length-set l.r l.s _ ∙ l.invariant.1,
      filled_more (λ j. better (get_or a.p j (pos 0)) (get_or a.q j (pos 0))) l.r l.s _ (omega arith) l.invariant.2
          (elim c.if-q-s.branch [
            | then-q-s w ↦ takes_second p q fp fq _ w.z-is w.if-q-s.true
            | else-q-s w ↦ takes_first p q fp fq _ w.z-is w.if-q-s.false
          ]),
    )
