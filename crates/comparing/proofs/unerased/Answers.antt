use native.Mathlib.Omega.{arith}
use lib.ListN.{get_or}
use Rattle.comparing.proofs.Matching.{counts_most, unerased_none, unerased_more}
use Rattle.comparing.proofs.unerased.Goals as goal

pub loop-d-init : goal.loop-d-init
loop-d-init c = (omega arith, unerased_none c.args.s.now)

pub loop-d-preserved : goal.loop-d-preserved
loop-d-preserved c =
    let l = c.loop-d in
    let s = c.args.s.now in
    let one = counts_most (get_or s l.d-index 0) in
    (omega (arith, c.counts-found.ensures), omega (arith, l.invariant.1, c.counts-found.ensures, unerased_more s l.d-index c.loop-d-test.true))
