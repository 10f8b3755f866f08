-- Places in two pieces: the first n by p, below a, and the rest by q, from a on.
-- Assumes nothing.
use mathlib.Core.Path.{◌≡◌, refl, sym, ap, ◌∙◌, subst}
use mathlib.Core.List.{List, ◌++◌}
use mathlib.Core.Bool.{Bool, true, false, cond}
use Prim.Native.Nat.{ℕ, ◌+◌, ◌-◌, ◌<◌}
use native.Mathlib.Omega.{arith}
use lib.Dec.{ltb}
use borrow.Author.Tests.{ltb-true, ltb-false, lt-ltb, le-ltb}
use lib.ListN.{length, get_or, get_or-append}
use lib.Seq.{get_or-append-add}
use Rattle.base.specs.Places.{Apart}
use Rattle.base.specs.private.Places.{Within}
use Rattle.stages.proofs.Route.{Missed}

module _ (p q : ℕ → ℕ) (n a : ℕ) where
  abbrev pub joined : ℕ → ℕ
  joined j = cond (ltb j n) (p j) (a + q (j - n))

  pub joined_first : (j : ℕ) → j < n → joined j ≡ p j
  joined_first j h = ap (λ (t : Bool). cond t (p j) (a + q (j - n))) (lt-ltb j n h)

  pub joined_rest : (j : ℕ) → joined (n + j) ≡ a + q j
  joined_rest j =
      let e : n + j - n ≡ j = omega arith in
      ap (λ (t : Bool). cond t (p (n + j)) (a + q (n + j - n))) (le-ltb (n + j) n (omega arith)) ∙ ap (λ (i : ℕ). a + q i) e

  module _ (m : ℕ) (pw : Within p n a) where
    pub joined_apart : Apart p n → Apart q m → Apart joined (n + m)
    joined_apart pa qa i j h k = go (ltb i n) (ltb j n) refl refl
      where
        go : (s t : Bool) → ltb i n ≡ s → ltb j n ≡ t → cond s (p i) (a + q (i - n)) ≡ cond t (p j) (a + q (j - n)) → i ≡ j
        go true true e f x = pa i j (ltb-true i n e) (ltb-true j n f) x
        go true false e f x = absurd (omega (arith, pw i (ltb-true i n e)))
        go false true e f x = absurd (omega (arith, pw j (ltb-true j n f)))
        go false false e f x =
            omega (arith, ltb-false i n e, ltb-false j n f, qa (i - n) (j - n) (omega (arith, ltb-false i n e)) (omega (arith, ltb-false j n f)) (omega arith))

    pub joined_within : (b : ℕ) → Within q m b → Within joined (n + m) (a + b)
    joined_within b qw j h = go (ltb j n) refl
      where
        go : (t : Bool) → ltb j n ≡ t → cond t (p j) (a + q (j - n)) < a + b
        go true e = omega (arith, pw j (ltb-true j n e))
        go false e = omega (arith, qw (j - n) (omega (arith, ltb-false j n e)))

    -- what stands at a place of two lists, one behind the other
    pub joined_at : {A : Type 0} (d : A) (xs ys : List A) (P : ℕ → A → Type 0) → length xs ≡ a
        → ((j : ℕ) → j < n → P j (get_or xs (p j) d)) → ((j : ℕ) → j < m → P (n + j) (get_or ys (q j) d))
        → (j : ℕ) → j < n + m → P j (get_or (xs ++ ys) (joined j) d)
    joined_at {A} d xs ys P e f g j h = go (ltb j n) refl
      where
        go : (t : Bool) → ltb j n ≡ t → P j (get_or (xs ++ ys) (cond t (p j) (a + q (j - n))) d)
        go true u =
            subst (P j) (sym (get_or-append xs ys d (p j) (omega (arith, pw j (ltb-true j n u))))) (f j (ltb-true j n u))
        go false u =
            let i : n + (j - n) ≡ j = omega (arith, ltb-false j n u) in
            let s : length xs + q (j - n) ≡ a + q (j - n) = omega arith in
            subst (P j) (sym (get_or-append-add xs ys (q (j - n)) d) ∙ ap (λ (x : ℕ). get_or (xs ++ ys) x d) s)
            (subst (λ (l : ℕ). P l (get_or ys (q (j - n)) d)) i (g (j - n) (omega (arith, ltb-false j n u))))

    -- and at a place that is missed
    pub joined_missed : {A : Type 0} (d : A) (xs ys : List A) (P : A → Type 0) (b : ℕ) → length xs ≡ a
        → ((x : ℕ) → x < a → Missed p n x → P (get_or xs x d)) → ((x : ℕ) → x < b → Missed q m x → P (get_or ys x d))
        → (x : ℕ) → x < a + b → Missed joined (n + m) x → P (get_or (xs ++ ys) x d)
    joined_missed d xs ys P b e f g x h miss = go (ltb x a) refl
      where
        go : (t : Bool) → ltb x a ≡ t → P (get_or (xs ++ ys) x d)
        go true u =
            subst P (sym (get_or-append xs ys d x (omega (arith, ltb-true x a u))))
            (f x (ltb-true x a u) (λ j l z. miss j (omega arith) (joined_first j l ∙ z)))
        go false u =
            let s : length xs + (x - a) ≡ x = omega (arith, ltb-false x a u) in
            subst P (sym (get_or-append-add xs ys (x - a) d) ∙ ap (λ (i : ℕ). get_or (xs ++ ys) i d) s)
            (g (x - a) (omega (arith, ltb-false x a u)) (λ j l z. miss (n + j) (omega arith) (joined_rest j ∙ omega (arith, ltb-false x a u))))
