-- There is one winner, the nearest word; what makes a word the nearest, and what keeps it so.
-- Assumes nothing.
use mathlib.Core.Path.{◌≡◌, refl, sym, ap, ◌∙◌, subst}
use mathlib.Core.List.Memᴰ
use mathlib.Core.List.{List, [], ◌∷◌, reverse, reverse-reverse, Memᴰ}
use mathlib.Core.Logic.{◌⊎◌, inl, inr, ⊎_elim}
use mathlib.Core.Bool.{Bool, true, false, cond}
use Prim.Native.Nat.{ℕ, zero, suc, ◌+◌, ◌≤◌, ◌<◌}
use native.Mathlib.Omega.{arith}
use lib.Dec.{ltb}
use borrow.Author.Tests.{ltb-true, ltb-false}
use lib.ListN.{length, replicate, length-reverse}
use Rattle.base.specs.Bits.{Bits}
use Rattle.trellis.specs.Nearest.{candidates, first_least, nearest, Lex, Candidate, Before, Winner}
use Rattle.trellis.proofs.Order.{lex_refl, lex_trans, lex_antisym, lex_zeros, Sorted}
use Rattle.trellis.proofs.Candidates.{candidates_of, candidates_in, candidates_sorted, zeros_candidate}
use Rattle.trellis.proofs.Words.{zeros_reverse}

-- ---- the winner is one
pub winner_unique : (far : List ℕ → ℕ) (n : ℕ) (w v : List ℕ) → Winner far n w → Winner far n v → w ≡ v
winner_unique far n w v p q = go (p.wins v q.candidate) (q.wins w p.candidate)
  where
    go : Before far w v → Before far v w → w ≡ v
    go (inl x) (inl y) = absurd (omega arith)
    go (inl x) (inr y) = absurd (omega arith)
    go (inr x) (inl y) = absurd (omega arith)
    go (inr x) (inr y) =
        sym (reverse-reverse w)
        ∙ ap reverse (lex_antisym (reverse w) (reverse v) (omega (arith, length-reverse w, length-reverse v, p.candidate.len, q.candidate.len)) x.1 y.1)
        ∙ reverse-reverse v

-- ---- the first of the least in a sorted list comes before all
module _ (far : List ℕ → ℕ) where
  abbrev Earlier : List ℕ → List ℕ → Type 0
  Earlier u v = Lex (reverse u) (reverse v)

  before_trans : (u v w : List ℕ) → Before far u v → Before far v w → Before far u w
  before_trans u v w (inl p) (inl q) = inl (omega arith)
  before_trans u v w (inl p) (inr q) = inl (omega arith)
  before_trans u v w (inr p) (inl q) = inl (omega arith)
  before_trans u v w (inr p) (inr q) = inr (omega arith, lex_trans (reverse u) (reverse v) (reverse w) p.1 q.1)

  -- w against an earlier one that is no nearer, or a later one that is
  stays : (w v : List ℕ) → Earlier w v → ltb (far v) (far w) ≡ false → Before far w v
  stays w v l e = go (ltb (far w) (far v)) refl
    where
      go : (t : Bool) → ltb (far w) (far v) ≡ t → Before far w v
      go true f = inl (ltb-true (far w) (far v) f)
      go false f = inr (omega (arith, ltb-false (far v) (far w) e, ltb-false (far w) (far v) f), l)

  pub least_before : (w : List ℕ) (vs : List (List ℕ)) → ((v : List ℕ) → Memᴰ v vs → Earlier w v) → Sorted Earlier vs
      → (v : List ℕ) → (v ≡ w) ⊎ Memᴰ v vs → Before far (first_least far w vs) v
  least_before w [] l s v (inl e) = inr (ap far (sym e), subst (λ (u : List ℕ). Earlier w u) (sym e) (lex_refl (reverse w)))
  least_before w [] l s v (inr m) = absurd (Memᴰ.not-nil m)
  least_before w (u ∷ us) l s v m = go (ltb (far u) (far w)) refl (least_before u us s.0 s.1) (least_before w us (λ x k. l x (Memᴰ.tail k)) s.1)
    where
      cases : (v ≡ w) ⊎ ((v ≡ u) ⊎ Memᴰ v us)
      cases = ⊎_elim inl (λ k. inr (Memᴰ.cases_cons k)) m

      go : (t : Bool) → ltb (far u) (far w) ≡ t
          → ((x : List ℕ) → (x ≡ u) ⊎ Memᴰ x us → Before far (first_least far u us) x)
          → ((x : List ℕ) → (x ≡ w) ⊎ Memᴰ x us → Before far (first_least far w us) x)
          → Before far (first_least far (cond t u w) us) v
      go true e iu iw = ⊎_elim (λ q. subst (Before far (first_least far u us)) (sym q) (before_trans (first_least far u us) u w (iu u (inl refl)) (inl (ltb-true (far u) (far w) e)))) (iu v) cases
      go false e iu iw =
          ⊎_elim (λ q. iw v (inl q))
          (⊎_elim (λ q. subst (Before far (first_least far w us)) (sym q) (before_trans (first_least far w us) w u (iw w (inl refl)) (stays w u (l u (Memᴰ.head refl)) e)))
          (λ k. iw v (inr k))) cases

  pub least_in : (w : List ℕ) (vs : List (List ℕ)) → (first_least far w vs ≡ w) ⊎ Memᴰ (first_least far w vs) vs
  least_in w [] = inl refl
  least_in w (u ∷ us) = go (ltb (far u) (far w)) (least_in u us) (least_in w us)
    where
      go : (t : Bool) → (first_least far u us ≡ u) ⊎ Memᴰ (first_least far u us) us → (first_least far w us ≡ w) ⊎ Memᴰ (first_least far w us) us
          → (first_least far (cond t u w) us ≡ w) ⊎ Memᴰ (first_least far (cond t u w) us) (u ∷ us)
      go true iu iw = inr (⊎_elim Memᴰ.head Memᴰ.tail iu)
      go false iu iw = ⊎_elim inl (λ k. inr (Memᴰ.tail k)) iw

-- ---- the nearest word wins
pub nearest_wins : (far : List ℕ → ℕ) (n : ℕ) → Winner far n (nearest far n)
unfolding nearest
nearest_wins far n =
    record {
      candidate = ⊎_elim (λ e. subst (Candidate n) (sym e) (zeros_candidate n)) (candidates_of n (first_least far (replicate n 0) (candidates n)))
          (least_in far (replicate n 0) (candidates n));
      wins = λ v c. least_before far (replicate n 0) (candidates n) (λ u m. zeros_first u (candidates_of n u m)) (candidates_sorted n) v (inr (candidates_in n v c));
    }
  where
    zeros_first : (u : List ℕ) → Candidate n u → Lex (reverse (replicate n 0)) (reverse u)
    zeros_first u c = subst (λ (z : List ℕ). Lex z (reverse u)) (sym (zeros_reverse n)) (lex_zeros n (reverse u) (length-reverse u ∙ c.len))

pub winner_nearest : (far : List ℕ → ℕ) (n : ℕ) (w : List ℕ) → Winner far n w → w ≡ nearest far n
winner_nearest far n w p = winner_unique far n w (nearest far n) p (nearest_wins far n)

pub nearest_length : (far : List ℕ → ℕ) (n : ℕ) → length (nearest far n) ≡ n
nearest_length far n = (nearest_wins far n).candidate.len

pub nearest_bits : (far : List ℕ → ℕ) (n : ℕ) → Bits (nearest far n)
nearest_bits far n = (nearest_wins far n).candidate.bits

-- no candidate is nearer
pub nearest_least : (far : List ℕ → ℕ) (n : ℕ) (v : List ℕ) → Candidate n v → far (nearest far n) ≤ far v
nearest_least far n v c = ⊎_elim (λ l. omega arith) (λ e. omega (arith, e.0)) ((nearest_wins far n).wins v c)

-- distances that agree on the candidates have one nearest word
pub nearest_same : (f g : List ℕ → ℕ) (n : ℕ) → ((v : List ℕ) → Candidate n v → f v ≡ g v) → nearest f n ≡ nearest g n
nearest_same f g n h =
    winner_nearest g n (nearest f n)
    (record { candidate = p.candidate; wins = λ v c. go v (h (nearest f n) p.candidate) (h v c) (p.wins v c) })
  where
    p : Winner f n (nearest f n)
    p = nearest_wins f n

    go : (v : List ℕ) → f (nearest f n) ≡ g (nearest f n) → f v ≡ g v → Before f (nearest f n) v → Before g (nearest f n) v
    go v d e (inl l) = inl (omega arith)
    go v d e (inr q) = inr (omega (arith, q.0), q.1)

-- ---- what makes a word the nearest
-- every other candidate is further
pub sole : (far : List ℕ → ℕ) (n : ℕ) (w : List ℕ) → Candidate n w → ((v : List ℕ) → Candidate n v → (v ≡ w) ⊎ (far w < far v)) → nearest far n ≡ w
sole far n w c h = go (h (nearest far n) (nearest_wins far n).candidate)
  where
    go : (nearest far n ≡ w) ⊎ (far w < far (nearest far n)) → nearest far n ≡ w
    go (inl e) = e
    go (inr l) = absurd (omega (arith, nearest_least far n w c))

-- it alone has the distance 0
pub sole_zero : (far : List ℕ → ℕ) (n : ℕ) (w : List ℕ) → Candidate n w → far w ≡ 0 → ((v : List ℕ) → Candidate n v → far v ≡ 0 → v ≡ w) → nearest far n ≡ w
sole_zero far n w c z h = sole far n w c (λ v d. go v d (far v) refl)
  where
    go : (v : List ℕ) → Candidate n v → (x : ℕ) → far v ≡ x → (v ≡ w) ⊎ (far w < far v)
    go v d zero e = inl (h v d e)
    go v d (suc x) e = inr (omega arith)

-- ---- what keeps it so
-- no candidate gains on it
pub keeps : (f g : List ℕ → ℕ) (n : ℕ) → ((v : List ℕ) → Candidate n v → f v + g (nearest f n) ≤ g v + f (nearest f n)) → nearest g n ≡ nearest f n
keeps f g n h =
    sym (winner_nearest g n (nearest f n)
    (record { candidate = p.candidate; wins = λ v c. go v (h v c) (p.wins v c) (ltb (g (nearest f n)) (g v)) refl }))
  where
    p : Winner f n (nearest f n)
    p = nearest_wins f n

    go : (v : List ℕ) → f v + g (nearest f n) ≤ g v + f (nearest f n) → Before f (nearest f n) v
        → (t : Bool) → ltb (g (nearest f n)) (g v) ≡ t → Before g (nearest f n) v
    go v i b true e = inl (ltb-true (g (nearest f n)) (g v) e)
    go v i (inl b) false e = absurd (omega (arith, ltb-false (g (nearest f n)) (g v) e))
    go v i (inr b) false e = inr (omega (arith, ltb-false (g (nearest f n)) (g v) e), b.1)
