-- A rule of all numbers below a bound, proved by one computed test.
-- Assumes nothing.
use mathlib.Core.Path.{◌≡◌, refl, sym, subst}
use mathlib.Core.Bool.{Bool, true, false}
use Prim.Native.Nat.{ℕ, zero, suc, ◌<◌}
use native.Mathlib.Omega.{arith}
use lib.Dec.{T, eqb}
use borrow.Author.Tests.{eqb-true, eqb-false}
use Rattle.base.specs.Bits.{both}

pub both_left : (a b : Bool) → T (both a b) → T a
both_left true b t = tt
both_left false b t = t

pub both_right : (a b : Bool) → T (both a b) → T b
both_right true b t = t
both_right false b t = absurd t

-- the test holds at each number below n
abbrev pub below : (ℕ → Bool) → ℕ → Bool
below f zero = true
below f (suc n) = both (f n) (below f n)

-- the test computed over all of them says the rule at each
pub at : (f : ℕ → Bool) (n : ℕ) → T (below f n) → (x : ℕ) → x < n → T (f x)
at f zero t x h = absurd (omega arith)
at f (suc n) t x h = go (eqb x n) refl (at f n (both_right (f n) (below f n) t) x)
  where
    go : (b : Bool) → eqb x n ≡ b → (x < n → T (f x)) → T (f x)
    go true e ih = subst (λ (y : ℕ). T (f y)) (sym (eqb-true x n e)) (both_left (f n) (below f n) t)
    go false e ih = ih (omega (arith, eqb-false x n e))
