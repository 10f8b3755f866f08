use mathlib.Core.Path.{◌≡◌, ap, subst}
use Prim.Native.Nat.{ℕ, ◌*◌}
use native.Mathlib.Omega.{arith}
use lib.Signed.{mag}
use lib.ListN.{length}
use Rattle.viterbi.specs.private.Scores.{Forward}
use Rattle.viterbi.proofs.Branches.{branch_small}
use Rattle.viterbi.proofs.Pass.{step_room, scores_small, forward_none, forward_more}
use Rattle.viterbi.proofs.Answers.{own_walk_ends}
use Rattle.viterbi.proofs.inner.Code.forward.Goals as goal

pub loop-i-init : goal.loop-i-init
loop-i-init c =
    let a = c.args in
    let code = a.self in
    forward_none code.rate code.expected code.table a.source.now a.trellis.now

pub advance-turn-requires : goal.advance-turn-requires
advance-turn-requires c =
    let a = c.args in
    let code = a.self in
    let l = c.loop-i in
    let room = step_room code.rate l.i (length a.trellis.now) (length a.source.now) c.loop-i-test.true c.requires.1 in (
      λ s h. omega (arith, scores_small code.rate code.expected code.table a.source.now l.i l.scores.m a.trellis.now l.trellis (omega (arith, c.loop-i-test.true, c.requires.0)) (omega (arith, room)) l.invariant s h),
      λ s h. omega (arith, ap mag (c.branches.ensures s h), branch_small code.rate code.expected a.source.now (code.rate * l.i) s h code.table),
    )

pub loop-i-preserved : goal.loop-i-preserved
loop-i-preserved c =
    let a = c.args in
    let code = a.self in
    let l = c.loop-i in
    let t = c.advance-turn in
    let room = step_room code.rate l.i (length a.trellis.now) (length a.source.now) c.loop-i-test.true c.requires.1 in
    forward_more code.rate code.expected code.table a.source.now l.i room l.scores.m c.branches.result t.result.scores.m a.trellis.now l.trellis t.result.taken
    l.invariant c.branches.ensures t.ensures (omega (arith, c.loop-i-test.true, l.invariant.long))

pub returns : goal.returns
returns c =
    let a = c.args in
    let code = a.self in
    let l = c.loop-i in
    let n : ℕ = length a.trellis.now in
    let e : l.i ≡ n = omega (arith, c.loop-i.auto, c.loop-i-test.false) in
    let done = subst (λ (i : ℕ). Forward code.rate code.expected a.source.now i l.scores.m a.trellis.now l.trellis) e l.invariant in
    (done, own_walk_ends code.rate code.expected code.table a.source.now n l.scores.m a.trellis.now l.trellis done)
