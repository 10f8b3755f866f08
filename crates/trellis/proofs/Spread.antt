-- The scores of two states are never further apart than four steps can cost, from the fourth step on.
-- Assumes nothing.
use mathlib.Core.Path.{◌≡◌, ap, ◌∙◌, subst}
use mathlib.Core.List.{List, ◌∷◌}
use Prim.Native.Nat.{ℕ, ◌+◌, ◌*◌, ◌/◌, ◌%◌, ◌≤◌, ◌<◌}
use native.Mathlib.Omega.{arith}
use Rattle.trellis.specs.Walk.{before}
use Rattle.trellis.specs.Trellis.{metric, choice, Bounded}
use Rattle.trellis.proofs.Paths.{via_le, metric_via, choice_lt}

-- ---- p is four steps before any state, by its own bits as the oldest ones
low_bit : (x t : ℕ) → x < 2 → before x t % 2 ≡ x
low_bit x t h = omega arith

low_two : (x t : ℕ) → x < 2 → before x t % 4 ≡ 2 * (t % 2) + x
low_two x t h = omega arith

low_three : (x t : ℕ) → x < 2 → before x t % 8 ≡ 2 * (t % 4) + x
low_three x t h = omega arith

back_four : (s p : ℕ) → p < 16 → before (p % 2) (before (p / 2 % 2) (before (p / 4 % 2) (before (p / 8) s))) ≡ p
back_four s p h =
    let s₁ = before (p / 8) s in
    let s₂ = before (p / 4 % 2) s₁ in
    let a : s₂ % 4 ≡ p / 4 = low_two (p / 4 % 2) s₁ (omega arith) ∙ ap (λ (y : ℕ). 2 * y + p / 4 % 2) (low_bit (p / 8) s (omega arith)) ∙ omega arith in
    let d : before (p / 2 % 2) s₂ % 8 ≡ p / 2 = low_three (p / 2 % 2) s₂ (omega arith) ∙ ap (λ (y : ℕ). 2 * y + p / 2 % 2) a ∙ omega arith in
    ap (λ (y : ℕ). y * 2 + p % 2) d ∙ omega arith

module _ (start : ℕ → ℕ) (most : ℕ) where
  rises : (c : ℕ → ℕ) (cs : List (ℕ → ℕ)) (s x : ℕ) → s < 16 → x < 2 → ((x : ℕ) → x < 32 → c x ≤ most)
      → metric start (c ∷ cs) s ≤ metric start cs (before x s) + most
  rises c cs s x hs hx k = omega (arith, via_le start c cs s x hx, k (2 * s + x) (omega arith))

  falls : (c : ℕ → ℕ) (cs : List (ℕ → ℕ)) (s : ℕ) → metric start cs (before (choice start c cs s) s) ≤ metric start (c ∷ cs) s
  falls c cs s = omega (arith, metric_via start c cs s)

  pub spread : (c₀ c₁ c₂ c₃ : ℕ → ℕ) (cs : List (ℕ → ℕ)) (s r : ℕ) → s < 16 → Bounded most (c₀ ∷ c₁ ∷ c₂ ∷ c₃ ∷ cs)
      → metric start (c₀ ∷ c₁ ∷ c₂ ∷ c₃ ∷ cs) s ≤ metric start (c₀ ∷ c₁ ∷ c₂ ∷ c₃ ∷ cs) r + 4 * most
  spread c₀ c₁ c₂ c₃ cs s r hs k =
      omega (
        arith,
        rises c₀ cs₁ s (p / 8) hs (omega (arith, hp)) k.0,
        rises c₁ cs₂ s₁ (p / 4 % 2) (omega (arith, hp)) (omega arith) k.1.0,
        rises c₂ cs₃ s₂ (p / 2 % 2) (omega arith) (omega arith) k.1.1.0,
        subst (λ (q : ℕ). metric start cs₃ s₃ ≤ metric start cs q + most) (back_four s p hp)
            (rises c₃ cs s₃ (p % 2) (omega arith) (omega arith) k.1.1.1.0),
        falls c₃ cs r₃,
        falls c₂ cs₃ r₂,
        falls c₁ cs₂ r₁,
        falls c₀ cs₁ r,
      )
    where
      cs₃ : List (ℕ → ℕ)
      cs₃ = c₃ ∷ cs

      cs₂ : List (ℕ → ℕ)
      cs₂ = c₂ ∷ cs₃

      cs₁ : List (ℕ → ℕ)
      cs₁ = c₁ ∷ cs₂

      r₁ : ℕ
      r₁ = before (choice start c₀ cs₁ r) r

      r₂ : ℕ
      r₂ = before (choice start c₁ cs₂ r₁) r₁

      r₃ : ℕ
      r₃ = before (choice start c₂ cs₃ r₂) r₂

      p : ℕ
      p = before (choice start c₃ cs r₃) r₃

      hp : p < 16
      hp = omega (arith, choice_lt start c₃ cs r₃)

      s₁ : ℕ
      s₁ = before (p / 8) s

      s₂ : ℕ
      s₂ = before (p / 4 % 2) s₁

      s₃ : ℕ
      s₃ = before (p / 2 % 2) s₂
