-- The first part of the rest is counted, and the rest goes on behind it.
use borrow.Author.Rules.{rules}
use mathlib.Core.Path.{◌∙◌}
use Prim.Native.Nat.{◌+◌, ◌≤◌}
use native.Mathlib.Omega.{arith}
use lib.ListN.{length}
use Rattle.comparing.proofs.Matching.{unerased_part, unerased_all, unerased_most}
use Rattle.comparing.proofs.unerased_among.Goals as goal

pub unerased-requires : goal.unerased-requires
unerased-requires c = omega (arith, c.loop-part.invariant.0, c.in-Some.ensures.steps.1)

pub overflow_add-found : goal.overflow_add-found
overflow_add-found c =
    let rest = c.loop-part.part-iterator.rest.now in
    let s = c.args.s.now in
    let more = unerased_part _ _ _ c.loop-part.found _ c.in-Some.ensures.steps.1.0 c.unerased.ensures in
    let most : c.loop-part.found + c.unerased.result ≤ length s = omega (arith, more, c.loop-part.invariant.1, unerased_most s) in
    search rules

pub loop-part-preserved : goal.loop-part-preserved
loop-part-preserved c =
    let steps = c.in-Some.ensures.steps in
    let inv = c.loop-part.invariant in
    (steps.0 ∙ inv.0, unerased_part _ _ _ c.loop-part.found _ steps.1.0 c.unerased.ensures ∙ inv.1)

pub returns : goal.returns
returns c = unerased_all c.args.s.now c.loop-part.part-iterator.rest.now c.loop-part.found c.in-None.ensures.steps.1.0 c.loop-part.invariant.1
