-- The order of lists by their first difference, and lists of words that stand in an order.
-- Assumes nothing.
use mathlib.Core.Path.{◌≡◌, refl, ap₂, subst}
use mathlib.Core.List.Memᴰ
use mathlib.Core.List.{List, [], ◌∷◌, ◌++◌, map, Memᴰ}
use mathlib.Core.Logic.{inl, inr, ⊎_elim}
use Prim.Native.Nat.{ℕ, zero, suc}
use native.Mathlib.Omega.{arith}
use lib.ListN.{length, replicate}
use Rattle.trellis.specs.Nearest.{Lex}

pub lex_trans : (u v w : List ℕ) → Lex u v → Lex v w → Lex u w
lex_trans [] v w p q = tt
lex_trans (a ∷ u) [] w p q = absurd p
lex_trans (a ∷ u) (b ∷ v) [] p q = absurd q
lex_trans (a ∷ u) (b ∷ v) (c ∷ w) (inl p) (inl q) = inl (omega arith)
lex_trans (a ∷ u) (b ∷ v) (c ∷ w) (inl p) (inr q) = inl (omega arith)
lex_trans (a ∷ u) (b ∷ v) (c ∷ w) (inr p) (inl q) = inl (omega arith)
lex_trans (a ∷ u) (b ∷ v) (c ∷ w) (inr p) (inr q) = inr (omega arith, lex_trans u v w p.1 q.1)

pub lex_refl : (w : List ℕ) → Lex w w
lex_refl [] = tt
lex_refl (a ∷ w) = inr (refl, lex_refl w)

pub lex_antisym : (w v : List ℕ) → length w ≡ length v → Lex w v → Lex v w → w ≡ v
lex_antisym [] [] e p q = refl
lex_antisym [] (b ∷ v) e p q = absurd (omega arith)
lex_antisym (a ∷ w) [] e p q = absurd (omega arith)
lex_antisym (a ∷ w) (b ∷ v) e (inl p) (inl q) = absurd (omega arith)
lex_antisym (a ∷ w) (b ∷ v) e (inl p) (inr q) = absurd (omega arith)
lex_antisym (a ∷ w) (b ∷ v) e (inr p) (inl q) = absurd (omega arith)
lex_antisym (a ∷ w) (b ∷ v) e (inr p) (inr q) = ap₂ (λ (x : ℕ) (l : List ℕ). x ∷ l) p.0 (lex_antisym w v (omega arith) p.1 q.1)

pub lex_prefix : (u w v : List ℕ) → Lex w v → Lex (u ++ w) (u ++ v)
lex_prefix [] w v p = p
lex_prefix (a ∷ u) w v p = inr (refl, lex_prefix u w v p)

-- zeros come first
pub lex_zeros : (n : ℕ) (v : List ℕ) → length v ≡ n → Lex (replicate n 0) v
lex_zeros zero v e = tt
lex_zeros (suc n) [] e = absurd (omega arith)
lex_zeros (suc n) (zero ∷ v) e = inr (refl, lex_zeros n v (omega arith))
lex_zeros (suc n) (suc b ∷ v) e = inl (omega arith)

-- ---- each word stands in the order R to all that follow it
abbrev pub Sorted : (List ℕ → List ℕ → Type 0) → List (List ℕ) → Type 0
Sorted R [] = Unit {0}
Sorted R (w ∷ ws) = ((v : List ℕ) → Memᴰ v ws → R w v) × Sorted R ws

pub sorted_append : (R : List ℕ → List ℕ → Type 0) (us vs : List (List ℕ)) → Sorted R us → Sorted R vs
    → ((u v : List ℕ) → Memᴰ u us → Memᴰ v vs → R u v) → Sorted R (us ++ vs)
sorted_append R [] vs p q h = q
sorted_append R (u ∷ us) vs p q h = (
  λ v m. ⊎_elim (p.0 v) (h u v (Memᴰ.head refl)) (Memᴰ.append_cases us m),
  sorted_append R us vs p.1 q (λ x v k. h x v (Memᴰ.tail k)),
)

pub sorted_map : (R S : List ℕ → List ℕ → Type 0) (f : List ℕ → List ℕ) (ws : List (List ℕ)) → ((u v : List ℕ) → S u v → R (f u) (f v))
    → Sorted S ws → Sorted R (map f ws)
sorted_map R S f [] h p = tt
sorted_map R S f (w ∷ ws) h p = (
  λ v m. let (u, k, e) = Memᴰ.of_map f ws m in subst (R (f w)) e (h w u (p.0 u k)),
  sorted_map R S f ws h p.1,
)
