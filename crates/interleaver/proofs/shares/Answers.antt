use mathlib.Core.Path.{sym, ap}
use Prim.Native.Nat.{ℕ}
use native.Mathlib.Omega.{arith}
use Rattle.interleaver.specs.Interleaving.{shared}
use Rattle.interleaver.proofs.Divisors.{greatest_shared}
use Rattle.interleaver.proofs.shares.Goals as goal

-- The greatest divisor is above 1 exactly when something is shared.
pub returns-then-k-eq0 : goal.returns-then-k-eq0
unfolding shared
returns-then-k-eq0 c =
    let a = c.args in
    sym (ap (λ (n : ℕ). shared n a.a) c.if-k-eq0.true)

pub returns : goal.returns
returns c =
    let a = c.args in
    greatest_shared a.k a.a c.divisor.result (omega (arith, c.if-k-eq0.false)) c.divisor.ensures
