-- Sums over places: a distance is one, and a sum over the places that are reached is the sum over what reaches them.
-- Assumes nothing.
use mathlib.Core.Path.{◌≡◌, refl, sym, ap, ap₂, ◌∙◌}
use mathlib.Core.List.{List, [], ◌∷◌}
use Prim.Native.Nat.{ℕ, zero, suc, ◌+◌, ◌≤◌, ◌<◌}
use native.Mathlib.Omega.{arith}
use lib.ListN.{length, get_or}
use Rattle.base.specs.Places.{Apart}
use Rattle.base.specs.private.Places.{Within}
use Rattle.trellis.specs.Nearest.{distance}
use Rattle.air.specs.Channel.{sum}

pub sum_same : (f g : ℕ → ℕ) (n : ℕ) → ((i : ℕ) → i < n → f i ≡ g i) → sum f n ≡ sum g n
sum_same f g zero h = refl
sum_same f g (suc n) h =
    ap₂ (λ (a b : ℕ). a + b) (h 0 (omega arith)) (sum_same (λ i. f (suc i)) (λ i. g (suc i)) n (λ i k. h (suc i) (omega arith)))

pub sum_zero : (f : ℕ → ℕ) (n : ℕ) → ((i : ℕ) → i < n → f i ≡ 0) → sum f n ≡ 0
sum_zero f zero h = refl
sum_zero f (suc n) h = omega (arith, h 0 (omega arith), sum_zero (λ i. f (suc i)) n (λ i k. h (suc i) (omega arith)))

pub sum_le : (f g : ℕ → ℕ) (n : ℕ) → ((i : ℕ) → i < n → f i ≤ g i) → sum f n ≤ sum g n
sum_le f g zero h = omega arith
sum_le f g (suc n) h = omega (arith, h 0 (omega arith), sum_le (λ i. f (suc i)) (λ i. g (suc i)) n (λ i k. h (suc i) (omega arith)))

pub sum_add : (f g : ℕ → ℕ) (n : ℕ) → sum (λ i. f i + g i) n ≡ sum f n + sum g n
sum_add f g zero = refl
sum_add f g (suc n) = omega (arith, sum_add (λ i. f (suc i)) (λ i. g (suc i)) n)

-- a distance is the sum over the places of what was sent
pub distance_sum : {A : Type 0} (m : A → ℕ → ℕ) (d : A) (rs : List A) (ys : List ℕ) → length ys ≤ length rs
    → distance m rs ys ≡ sum (λ i. m (get_or rs i d) (get_or ys i 0)) (length ys)
distance_sum m d [] [] h = refl
distance_sum m d [] (y ∷ ys) h = absurd (omega arith)
distance_sum m d (r ∷ rs) [] h = refl
distance_sum m d (r ∷ rs) (y ∷ ys) h = ap (λ (x : ℕ). m r y + x) (distance_sum m d rs ys (omega arith))

-- ---- the places that are reached
-- the rule, with nothing at x
abbrev without : ℕ → (ℕ → ℕ) → ℕ → ℕ
without zero g zero = 0
without zero g (suc y) = g (suc y)
without (suc x) g zero = g 0
without (suc x) g (suc y) = without x (λ i. g (suc i)) y

without_other : (x : ℕ) (g : ℕ → ℕ) (y : ℕ) → (y ≡ x → ⊥) → without x g y ≡ g y
without_other zero g zero h = absurd (h refl)
without_other zero g (suc y) h = refl
without_other (suc x) g zero h = refl
without_other (suc x) g (suc y) h = without_other x (λ i. g (suc i)) y (λ e. h (ap suc e))

without_none : (x : ℕ) (g : ℕ → ℕ) (y : ℕ) → ((y ≡ x → ⊥) → g y ≡ 0) → without x g y ≡ 0
without_none zero g zero h = refl
without_none zero g (suc y) h = h (λ e. omega arith)
without_none (suc x) g zero h = h (λ e. omega arith)
without_none (suc x) g (suc y) h = without_none x (λ i. g (suc i)) y (λ d. h (λ e. d (omega arith)))

sum_out : (g : ℕ → ℕ) (x n : ℕ) → x < n → sum g n ≡ g x + sum (without x g) n
sum_out g x zero h = absurd (omega arith)
sum_out g zero (suc n) h = omega arith
sum_out g (suc x) (suc n) h = omega (arith, sum_out (λ i. g (suc i)) x n (omega arith))

-- a sum over m places, of which only those that the first n of p reach count, is the sum over these n
pub sum_places : (p : ℕ → ℕ) (n m : ℕ) (g : ℕ → ℕ) → Apart p n → Within p n m
    → ((x : ℕ) → x < m → ((i : ℕ) → i < n → p i ≡ x → ⊥) → g x ≡ 0) → sum g m ≡ sum (λ i. g (p i)) n
sum_places p zero m g a w z = sum_zero g m (λ x h. z x h (λ i k e. omega arith))
sum_places p (suc n) m g a w z =
    sum_out g (p 0) m (w 0 (omega arith))
    ∙ ap (λ (s : ℕ). g (p 0) + s)
    (sum_places (λ i. p (suc i)) n m (without (p 0) g) (λ i j h k e. next i j (a (suc i) (suc j) (omega arith) (omega arith) e))
    (λ i h. w (suc i) (omega arith)) (λ x h miss. without_none (p 0) g x (λ d. z x h (missed x miss d)))
    ∙ same)
  where
    next : (i j : ℕ) → suc i ≡ suc j → i ≡ j
    next i j e = omega arith

    missed : (x : ℕ) → ((i : ℕ) → i < n → p (suc i) ≡ x → ⊥) → (x ≡ p 0 → ⊥) → (i : ℕ) → i < suc n → p i ≡ x → ⊥
    missed x miss first zero h e = first (sym e)
    missed x miss first (suc i) h e = miss i (omega arith) e

    same : sum (λ i. without (p 0) g (p (suc i))) n ≡ sum (λ i. g (p (suc i))) n
    same =
        sum_same (λ i. without (p 0) g (p (suc i))) (λ i. g (p (suc i))) n
        (λ i h. without_other (p 0) g (p (suc i)) (λ e. absurd (omega (arith, a (suc i) 0 (omega arith) (omega arith) e))))
