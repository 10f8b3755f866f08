-- What is written and cleared behind the walk grows by a step.
use native.Mathlib.Omega.{arith}
use lib.ListN.{length}
use Rattle.viterbi.proofs.Walks.{walked_back, Walked, walked_none, walked_all}
use mathlib.Core.Path.{◌≡◌, subst}
use Prim.Native.Nat.{ℕ}
use Rattle.viterbi.proofs.inner.back.Goals as goal

pub loop-i-init : goal.loop-i-init
loop-i-init c = (omega arith, walked_none (length c.args.trellis.now) c.args.trellis.now c.args.target.now)

pub returns : goal.returns
returns c =
    let a = c.args in
    let l = c.loop-i in
    let z : l.i ≡ 0 = omega arith in
    walked_all (length a.trellis.now) l.s a.trellis.now l.trellis a.target.now l.target
    (subst (λ (i : ℕ). Walked (length a.trellis.now) i l.s a.trellis.now l.trellis a.target.now l.target) z l.invariant.1)

pub loop-i-preserved : goal.loop-i-preserved
loop-i-preserved c =
    let a = c.args in
    let l = c.loop-i in
    (omega arith, walked_back (length a.trellis.now) l.i l.s a.trellis.now l.trellis a.target.now l.target l.invariant.1 (omega arith) (omega arith) (omega arith) (omega arith))
