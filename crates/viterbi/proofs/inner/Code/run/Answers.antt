use mathlib.Core.Path.{sym, ap, subst, ◌∙◌}
use Prim.Native.Nat.{ℕ, ◌*◌}
use native.Mathlib.Omega.{arith}
use lib.ListN.{length}
use lib.Seq.{take_all}
use Rattle.base.specs.Bits.{known}
use Rattle.trellis.specs.Nearest.{total}
use Rattle.viterbi.specs.private.Scores.{Back}
use Rattle.viterbi.proofs.Answers.{count_asks, found}
use Rattle.viterbi.proofs.inner.Code.run.Goals as goal

pub cost-requires : goal.cost-requires
cost-requires c =
    let a = c.args in
    let code = a.self in
    let n : ℕ = length a.trellis.now in
    let f = c.forward-scores in
    let b = c.back in
    let walked = subst (λ (n : ℕ). Back n f.new.trellis b.new.trellis a.target.now b.new.target) f.ensures.0.long b.ensures in
    let symbols = c.unerased.ensures ∙ ap (total known) (sym (take_all (code.rate * n) a.source.now (omega (arith, c.requires.1)))) in
    count_asks code.rate code.expected code.table a.source.now n c.requires.0 (omega (arith, c.requires.1)) f.result.m a.trellis.now
    f.new.trellis b.new.trellis a.target.now b.new.target f.ensures.0 walked c.unerased.result symbols

pub returns : goal.returns
returns c code tells =
    let a = c.args in
    let own = a.self in
    let n : ℕ = length a.trellis.now in
    let f = c.forward-scores in
    let b = c.back in
    let walked = subst (λ (n : ℕ). Back n f.new.trellis b.new.trellis a.target.now b.new.target) f.ensures.0.long b.ensures in
    let symbols = c.unerased.ensures ∙ ap (total known) (sym (take_all (own.rate * n) a.source.now (omega (arith, c.requires.1)))) in
    found own.rate own.expected own.table a.source.now n c.requires.0 (omega (arith, c.requires.1)) f.result.m a.trellis.now
    f.new.trellis b.new.trellis a.target.now b.new.target f.ensures.0 walked code tells
    c.unerased.result c.cost.result symbols c.cost.ensures
