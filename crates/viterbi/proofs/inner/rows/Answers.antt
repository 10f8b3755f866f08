use lib.IntN.{pos}
use lib.ListN.{get_or}
use Rattle.viterbi.proofs.Branches.{wide_is, minus_is, made_more, wide_fits, minus_fits, Made, made_none, made_all}
use native.Mathlib.Omega.{arith}
use mathlib.Core.Path.{◌≡◌, subst}
use Prim.Native.Nat.{ℕ}
use Rattle.viterbi.proofs.inner.rows.Goals as goal

pub loop-s-init : goal.loop-s-init
loop-s-init c = (omega arith, made_none c.args.e)

pub overflow_cast-wide : goal.overflow_cast-wide
overflow_cast-wide c = wide_fits (get_or c.args.e c.loop-s.s (pos 0)) (c.requires c.loop-s.s (omega arith))

pub overflow_sub-r : goal.overflow_sub-r
overflow_sub-r c = minus_fits (get_or c.args.e c.loop-s.s (pos 0)) (c.requires c.loop-s.s (omega arith))

pub returns : goal.returns
returns c =
    let l = c.loop-s in
    let e : l.s ≡ 16 = omega arith in
    made_all c.args.e l.r (subst (λ (s : ℕ). Made c.args.e s l.r) e l.invariant.1)

pub loop-s-preserved : goal.loop-s-preserved
loop-s-preserved c =
    let l = c.loop-s in
    let h = c.requires l.s (omega arith) in
    let e = get_or c.args.e l.s (pos 0) in
    (omega arith, made_more c.args.e l.s l.r _ _ (omega arith) l.invariant.1 (wide_is e h) (minus_is e h))
