-- Euclid's step, and that the search for a shared divisor finds one exactly when the greatest is above 1.
-- Assumes nothing.
use mathlib.Core.Path.{◌≡◌, refl, sym, ap, ap₂, ◌∙◌}
use mathlib.Core.Bool.{Bool, true, false}
use Prim.Native.Nat.{ℕ, zero, suc, ◌+◌, ◌%◌, ◌∣◌, ◌≤◌, ◌<◌}
use native.Mathlib.Nat.{dvd_refl, dvd-zero, dvd-mod_iff, le_of_dvd, pos_of_dvd_of_pos, mod-eq-zero_of_dvd, dvd_of_mod-eq-zero}
use native.Mathlib.Omega.{arith}
use lib.Dec.{eqb, ltb}
use borrow.Author.Tests.{ltb-true, ltb-false, lt-ltb, eqb-true, eqb-false, eq-eqb}
use Rattle.base.specs.Bits.{both, either}
use Rattle.interleaver.specs.Interleaving.{divides, shared_up_to, shared}
use Rattle.interleaver.specs.private.Divisors.{Greatest}

-- ---- Euclid's step
pub greatest_end : (a b : ℕ) → b ≡ 0 → Greatest a b a
greatest_end a b e = record { left = dvd_refl a; right = rw e (dvd-zero a); most = λ d p q. p }

pub greatest_step : (a b r : ℕ) → Greatest b (a % b) r → Greatest a b r
greatest_step a b r g =
    record {
      left = (dvd-mod_iff r g.left).0 g.right;
      right = g.left;
      most = λ d p q. g.most d q ((dvd-mod_iff d q).1 p);
    }

-- ---- the search
divides_yes : (d n : ℕ) → d ∣ n → divides d n ≡ true
divides_yes d n h = eq-eqb (n % d) 0 (mod-eq-zero_of_dvd d h)

yes_divides : (d n : ℕ) → divides d n ≡ true → d ∣ n
yes_divides d n e = dvd_of_mod-eq-zero d (eqb-true (n % d) 0 e)

-- some number above 1 divides both
abbrev pub Common : ℕ → ℕ → Type 0
Common k a = (d : ℕ) × (1 < d) × (d ∣ k) × (d ∣ a)

found : (m k a : ℕ) → shared_up_to m k a ≡ true → Common k a
found zero k a e = let z : ◌≡◌ {A = ℕ} 0 1 = cc in absurd (omega arith)
found (suc m) k a e = go (found m k a) (divides (m + 2) k) (divides (m + 2) a) refl refl e
  where
    go : (shared_up_to m k a ≡ true → Common k a) → (s t : Bool) → divides (m + 2) k ≡ s → divides (m + 2) a ≡ t
        → either (both s t) (shared_up_to m k a) ≡ true → Common k a
    go ih true true p q e = (m + 2, omega arith, yes_divides (m + 2) k p, yes_divides (m + 2) a q)
    go ih true false p q e = ih e
    go ih false t p q e = ih e

either_true : (b : Bool) → either b true ≡ true
either_true true = refl
either_true false = refl

finds : (m k a d : ℕ) → 1 < d → d ≤ m + 1 → d ∣ k → d ∣ a → shared_up_to m k a ≡ true
finds zero k a d l h p q = absurd (omega arith)
finds (suc m) k a d l h p q = go (λ n. finds m k a d l n p q) (eqb d (m + 2)) refl
  where
    go : (d ≤ m + 1 → shared_up_to m k a ≡ true) → (t : Bool) → eqb d (m + 2) ≡ t → shared_up_to (suc m) k a ≡ true
    go ih true e =
        let s = eqb-true d (m + 2) e in
        ap₂ (λ (x y : Bool). either (both x y) (shared_up_to m k a)) (ap (λ (n : ℕ). divides n k) (sym s) ∙ divides_yes d k p) (ap (λ (n : ℕ). divides n a) (sym s) ∙ divides_yes d a q)
    go ih false e =
        ap (λ (b : Bool). either (both (divides (m + 2) k) (divides (m + 2) a)) b) (ih (omega (arith, eqb-false d (m + 2) e)))
        ∙ either_true (both (divides (m + 2) k) (divides (m + 2) a))

-- what is shared is divided by some number above 1, for k at least 1, and the other way round
pub shared_by : (k a : ℕ) → shared k a ≡ true → (0 < k) × Common k a
unfolding shared
shared_by zero a e = let z : ◌≡◌ {A = ℕ} 0 1 = cc in absurd (omega arith)
shared_by (suc k) a e = (omega arith, found k (suc k) a e)

pub by_shared : (k a : ℕ) → 0 < k → Common k a → shared k a ≡ true
unfolding shared
by_shared zero a l s = absurd (omega arith)
by_shared (suc k) a l s = finds k (suc k) a s.0 s.1 (omega (arith, le_of_dvd l s.2)) s.2 s.3

-- the greatest divisor is above 1 exactly when something is shared
pub greatest_shared : (k a r : ℕ) → 0 < k → Greatest k a r → ltb 1 r ≡ shared k a
greatest_shared k a r l g = go (shared k a) refl
  where
    go : (t : Bool) → shared k a ≡ t → ltb 1 r ≡ shared k a
    go true e =
        let s = (shared_by k a e).1 in
        let p = pos_of_dvd_of_pos g.left l in
        lt-ltb 1 r (omega (arith, s.1, le_of_dvd p (g.most s.0 s.2 s.3))) ∙ sym e
    go false e = no (ltb 1 r) refl
      where
        no : (t : Bool) → ltb 1 r ≡ t → ltb 1 r ≡ shared k a
        no true h = h ∙ sym (by_shared k a l (r, ltb-true 1 r h, g.left, g.right))
        no false h = h ∙ sym e

-- where nothing is shared, only 1 divides both
pub only_one : (k a : ℕ) → 0 < k → shared k a ≡ false → (d : ℕ) → d ∣ a → d ∣ k → d ≡ 1
only_one k a l e d p q = go (ltb 1 d) refl
  where
    go : (t : Bool) → ltb 1 d ≡ t → d ≡ 1
    go true h = let y = by_shared k a l (d, ltb-true 1 d h, q, p) in let z : ◌≡◌ {A = ℕ} 0 1 = cc in absurd (omega arith)
    go false h = omega (arith, ltb-false 1 d h, pos_of_dvd_of_pos q l)
