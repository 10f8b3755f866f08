-- What the walk back through the trellis gives: a path that costs what the score says, that no path undercuts,
-- and that comes first in the tie rule among those that cost as little.
-- Assumes nothing.
use mathlib.Core.Path.{◌≡◌, refl, sym, ap, subst}
use mathlib.Core.List.{List, [], ◌∷◌}
use mathlib.Core.Logic.{◌⊎◌, inl, inr}
use mathlib.Core.Bool.{Bool, true, false, cond}
use Prim.Native.Nat.{ℕ, zero, suc, ◌+◌, ◌*◌, ◌/◌, ◌%◌, ◌≤◌, ◌<◌}
use native.Mathlib.Omega.{arith}
use lib.Dec.{ltb}
use lib.ListN.{length}
use borrow.Author.Tests.{ltb-true, ltb-false}
use Rattle.base.specs.Bits.{Bits}
use Rattle.trellis.specs.Nearest.{Lex}
use Rattle.trellis.specs.Walk.{before}
use Rattle.trellis.specs.Trellis.{state, lesser, taken, cost, metric, via, choice, trace, begin}

-- ---- of two scores
pub taken_lt : (a b : ℕ) → taken a b < 2
taken_lt a b = go (ltb b a)
  where
    go : (t : Bool) → cond t 1 0 < 2
    go true = omega arith
    go false = omega arith

lesser_taken : (f : ℕ → ℕ) → lesser (f 0) (f 1) ≡ f (taken (f 0) (f 1))
lesser_taken f = go (ltb (f 1) (f 0))
  where
    go : (t : Bool) → cond t (f 1) (f 0) ≡ f (cond t 1 0)
    go true = refl
    go false = refl

pub lesser_left : (a b : ℕ) → lesser a b ≤ a
lesser_left a b = go (ltb b a) refl
  where
    go : (t : Bool) → ltb b a ≡ t → cond t b a ≤ a
    go true e = omega (arith, ltb-true b a e)
    go false e = omega arith

pub lesser_right : (a b : ℕ) → lesser a b ≤ b
lesser_right a b = go (ltb b a) refl
  where
    go : (t : Bool) → ltb b a ≡ t → cond t b a ≤ b
    go true e = omega arith
    go false e = omega (arith, ltb-false b a e)

-- the second is taken only where it is smaller
taken_cases : (a b : ℕ) → (taken a b ≡ 0) ⊎ ((taken a b ≡ 1) × (lesser a b < a))
taken_cases a b = go (ltb b a) refl
  where
    go : (t : Bool) → ltb b a ≡ t → (◌≡◌ {A = ℕ} (cond t 1 0) 0) ⊎ ((◌≡◌ {A = ℕ} (cond t 1 0) 1) × (cond t b a < a))
    go true e = inr (refl, ltb-true b a e)
    go false e = inl refl

-- ---- states
pub state_lt : (s : ℕ) (w : List ℕ) → s < 16 → Bits w → state s w < 16
state_lt s [] h k = h
state_lt s (b ∷ w) h k = omega (arith, state_lt s w h k.1, k.0)

pub before_lt : (x s : ℕ) → x < 2 → before x s < 16
before_lt x s h = omega arith

-- of two words of one length, the one with the smaller state comes first
state_lex : (s t : ℕ) (w v : List ℕ) → s < 16 → t < 16 → Bits w → Bits v → length w ≡ length v → state s w < state t v → Lex w v
state_lex s t [] v hs ht bw bv e l = tt
state_lex s t (a ∷ w) [] hs ht bw bv e l = omega arith
state_lex s t (a ∷ w) (b ∷ v) hs ht bw bv e l =
    go (ltb a b) refl (state_lex s t w v hs ht bw.1 bv.1 (omega arith)) (state_lt s w hs bw.1) (state_lt t v ht bv.1)
  where
    go : (q : Bool) → ltb a b ≡ q → (state s w < state t v → Lex w v) → state s w < 16 → state t v < 16 → (a < b) ⊎ ((a ≡ b) × Lex w v)
    go true q ih x y = inl (ltb-true a b q)
    go false q ih x y = inr (omega (arith, ltb-false a b q), ih (omega (arith, ltb-false a b q)))

module _ (start : ℕ → ℕ) where
  -- ---- the path of the walk back
  pub choice_lt : (c : ℕ → ℕ) (cs : List (ℕ → ℕ)) (s : ℕ) → choice start c cs s < 2
  choice_lt c cs s = taken_lt (via start c cs s 0) (via start c cs s 1)

  pub trace_length : (cs : List (ℕ → ℕ)) (s : ℕ) → length (trace start cs s) ≡ length cs
  trace_length [] s = refl
  trace_length (c ∷ cs) s = ap suc (trace_length cs (before (choice start c cs s) s))

  pub trace_bits : (cs : List (ℕ → ℕ)) (s : ℕ) → s < 16 → Bits (trace start cs s)
  trace_bits [] s h = tt
  trace_bits (c ∷ cs) s h = (omega arith, trace_bits cs (before (choice start c cs s) s) (before_lt _ s (choice_lt c cs s)))

  pub begin_lt : (cs : List (ℕ → ℕ)) (s : ℕ) → s < 16 → begin start cs s < 16
  begin_lt [] s h = h
  begin_lt (c ∷ cs) s h = begin_lt cs (before (choice start c cs s) s) (before_lt _ s (choice_lt c cs s))

  state_on : (x s p : ℕ) → x < 2 → p ≡ before x s → 8 * (s / 8) + p / 2 ≡ s
  state_on x s p h e = omega arith

  -- it leads from the state where it ends to the state where it was begun
  pub trace_ends : (cs : List (ℕ → ℕ)) (s : ℕ) → s < 16 → state (begin start cs s) (trace start cs s) ≡ s
  trace_ends [] s h = refl
  trace_ends (c ∷ cs) s h =
      let x = choice start c cs s in
      state_on x s _ (choice_lt c cs s) (trace_ends cs (before x s) (before_lt x s (choice_lt c cs s)))

  pub metric_via : (c : ℕ → ℕ) (cs : List (ℕ → ℕ)) (s : ℕ) → metric start (c ∷ cs) s ≡ via start c cs s (choice start c cs s)
  metric_via c cs s = lesser_taken (via start c cs s)

  window_on : (x s p : ℕ) → x < 2 → p ≡ before x s → 16 * (s / 8) + p ≡ 2 * s + x
  window_on x s p h e = omega arith

  -- it costs the score of the state where it was begun
  pub trace_costs : (cs : List (ℕ → ℕ)) (s : ℕ) → s < 16 → cost start (begin start cs s) cs (trace start cs s) ≡ metric start cs s
  trace_costs [] s h = refl
  trace_costs (c ∷ cs) s h =
      let x = choice start c cs s in
      let p = before x s in
      let q = before_lt x s (choice_lt c cs s) in
      omega (arith, ap c (window_on x s _ (choice_lt c cs s) (trace_ends cs p q)), trace_costs cs p q, metric_via c cs s)

  -- ---- no path costs less
  pub via_le : (c : ℕ → ℕ) (cs : List (ℕ → ℕ)) (s x : ℕ) → x < 2 → metric start (c ∷ cs) s ≤ via start c cs s x
  via_le c cs s zero h = lesser_left (via start c cs s 0) (via start c cs s 1)
  via_le c cs s (suc zero) h = lesser_right (via start c cs s 0) (via start c cs s 1)
  via_le c cs s (suc (suc x)) h = omega arith

  -- a word's last step, as a branch into its state
  back : (b p : ℕ) → p < 16 → before (p % 2) (8 * b + p / 2) ≡ p
  back b p h = omega arith

  window : (b p : ℕ) → 2 * (8 * b + p / 2) + p % 2 ≡ 16 * b + p
  window b p = omega arith

  via_is : (c : ℕ → ℕ) (cs : List (ℕ → ℕ)) (b p : ℕ) → p < 16
      → via start c cs (8 * b + p / 2) (p % 2) ≡ c (16 * b + p) + metric start cs p
  via_is c cs b p h = omega (arith, ap c (window b p), ap (metric start cs) (back b p h))

  pub least : (cs : List (ℕ → ℕ)) (s : ℕ) (v : List ℕ) → s < 16 → Bits v → length v ≡ length cs → metric start cs (state s v) ≤ cost start s cs v
  least [] s [] h k e = omega arith
  least [] s (b ∷ v) h k e = omega arith
  least (c ∷ cs) s [] h k e = omega arith
  least (c ∷ cs) s (b ∷ v) h k e =
      let p = state s v in
      omega (
        arith,
        via_le c cs (8 * b + p / 2) (p % 2) (omega arith),
        via_is c cs b p (state_lt s v h k.1),
        least cs s v h k.1 (omega arith),
      )

  -- ---- among equals it comes first
  -- where a branch into s costs what the score says, the choice goes by it, or comes from a smaller state
  chosen : (c : ℕ → ℕ) (cs : List (ℕ → ℕ)) (b p : ℕ) → p < 16
      → via start c cs (8 * b + p / 2) (p % 2) ≡ metric start (c ∷ cs) (8 * b + p / 2)
      → (before (choice start c cs (8 * b + p / 2)) (8 * b + p / 2) ≡ p) ⊎ (before (choice start c cs (8 * b + p / 2)) (8 * b + p / 2) < p)
  chosen c cs b p h e = go (p % 2) refl (taken_cases (via start c cs s 0) (via start c cs s 1))
    where
      s : ℕ
      s = 8 * b + p / 2

      y : ℕ
      y = choice start c cs s

      go : (x : ℕ) → p % 2 ≡ x → (y ≡ 0) ⊎ ((y ≡ 1) × (metric start (c ∷ cs) s < via start c cs s 0)) → (before y s ≡ p) ⊎ (before y s < p)
      go zero q (inl f) = inl (omega arith)
      go zero q (inr f) = absurd (omega (arith, ap (via start c cs s) q))
      go (suc zero) q (inl f) = inr (omega arith)
      go (suc zero) q (inr f) = inl (omega arith)
      go (suc (suc x)) q f = absurd (omega arith)

  pub first : (cs : List (ℕ → ℕ)) (s : ℕ) (v : List ℕ) → s < 16 → Bits v → length v ≡ length cs
      → cost start s cs v ≡ metric start cs (state s v) → Lex (trace start cs (state s v)) v
  first [] s v h k e q = tt
  first (c ∷ cs) s [] h k e q = omega arith
  first (c ∷ cs) s (b ∷ v) h k e q =
      inr (
        omega (arith, pl),
        go (chosen c cs b p pl (omega (arith, lo, via_is c cs b p pl, via_le c cs t (p % 2) (omega arith))))
            (first cs s v h k.1 (omega arith) (omega (arith, lo, via_is c cs b p pl, via_le c cs t (p % 2) (omega arith)))),
      )
    where
      p : ℕ
      p = state s v

      t : ℕ
      t = 8 * b + p / 2

      pl : p < 16
      pl = state_lt s v h k.1

      lo : metric start cs p ≤ cost start s cs v
      lo = least cs s v h k.1 (omega arith)

      r : ℕ
      r = before (choice start c cs t) t

      rl : r < 16
      rl = before_lt (choice start c cs t) t (choice_lt c cs t)

      go : (r ≡ p) ⊎ (r < p) → Lex (trace start cs p) v → Lex (trace start cs r) v
      go (inl f) ih = subst (λ (n : ℕ). Lex (trace start cs n) v) (sym f) ih
      go (inr f) ih =
          state_lex (begin start cs r) s (trace start cs r) v (begin_lt cs r rl) h (trace_bits cs r rl) k.1
          (omega (arith, trace_length cs r)) (omega (arith, trace_ends cs r rl))
