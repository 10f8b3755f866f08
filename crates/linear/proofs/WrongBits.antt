-- Words with wrong bits: what a check says of them that gives 0 for every good word, and where a column stands among the others.
-- Assumes nothing.
use mathlib.Core.Path.{◌≡◌, refl, sym, ap, ◌∙◌, subst}
use mathlib.Core.List.{List, [], ◌∷◌}
use mathlib.Core.Bool.{Bool, true, false, not, cond}
use Prim.Native.Nat.{ℕ, zero, suc, ◌+◌, ◌-◌, ◌^◌, ◌≤◌, ◌<◌}
use native.Mathlib.Omega.{arith}
use lib.Bits.{bit_xor, xor_zero_r, xor_self, xor_comm, xor_lt}
use lib.Dec.{T, T_not, eqb, eqb_refl}
use lib.ListN.{length, get_or}
use lib.Pow.{pow-lt}
use borrow.Author.Tests.{eq-eqb, ne_eqb, eqb-true}
use Rattle.base.proofs.Table.{below, at}
use Rattle.base.proofs.Xor.{xor_assoc}
use Rattle.linear.specs.Linear.{image, turned, place_from}
use Rattle.linear.specs.private.Linear.{Separate}
use Rattle.linear.proofs.Maps.{image_xor, image_one}

-- ---- a turned bit
pub turned_lt : (n p w : ℕ) → 0 < p → p ≤ n → w < 2 ^ n → turned n p w < 2 ^ n
turned_lt n p w h k l = xor_lt n w (2 ^ (n - p)) l (pow-lt {i = n - p} {j = n} (omega arith))

-- turned twice, it is as it was
pub turned_twice : (n p w : ℕ) → turned n p (turned n p w) ≡ w
turned_twice n p w = xor_assoc w (2 ^ (n - p)) (2 ^ (n - p)) ∙ ap (bit_xor w) (xor_self (2 ^ (n - p))) ∙ xor_zero_r w

pub turned_swap : (n p q w : ℕ) → turned n p (turned n q w) ≡ turned n q (turned n p w)
turned_swap n p q w =
    xor_assoc w (2 ^ (n - q)) (2 ^ (n - p)) ∙ ap (bit_xor w) (xor_comm (2 ^ (n - q)) (2 ^ (n - p))) ∙ sym (xor_assoc w (2 ^ (n - p)) (2 ^ (n - q)))

-- it adds its column
pub image_turned : (cs : List ℕ) (i w : ℕ) → i < length cs → image cs (turned (length cs) (suc i) w) ≡ bit_xor (image cs w) (get_or cs i 0)
image_turned cs i w h = image_xor cs w (2 ^ (length cs - suc i)) ∙ ap (bit_xor (image cs w)) (image_one cs i h)

-- ---- the place of a column
-- it stands at i and not before
pub place_first : (k s : ℕ) (cs : List ℕ) (i : ℕ) → i < length cs → get_or cs i 0 ≡ s → ((j : ℕ) → j < i → get_or cs j 0 ≡ s → ⊥) → place_from k s cs ≡ k + i
place_first k s [] i h e n = absurd (omega arith)
place_first k s (c ∷ cs) zero h e n = ap (λ (t : Bool). cond t k (place_from (k + 1) s cs)) (eq-eqb c s e) ∙ omega arith
place_first k s (c ∷ cs) (suc i) h e n =
    let f : k + 1 + i ≡ k + suc i = omega arith in
    ap (λ (t : Bool). cond t k (place_from (k + 1) s cs)) (ne_eqb c s (n 0 (omega arith)))
    ∙ place_first (k + 1) s cs i (omega arith) e (λ j l. n (suc j) (omega arith)) ∙ f

-- it stands nowhere
pub place_none : (k s : ℕ) (cs : List ℕ) → ((j : ℕ) → j < length cs → get_or cs j 0 ≡ s → ⊥) → place_from k s cs ≡ 0
place_none k s [] n = refl
place_none k s (c ∷ cs) n =
    ap (λ (t : Bool). cond t k (place_from (k + 1) s cs)) (ne_eqb c s (n 0 (omega arith))) ∙ place_none (k + 1) s cs (λ j l. n (suc j) (omega arith))

-- where a place is given, it is one, and the column stands there
abbrev Stands : ℕ → ℕ → List ℕ → ℕ → Type 0
Stands k s cs p = (i : ℕ) × (i < length cs) × (k + i ≡ p) × (get_or cs i 0 ≡ s)

pub place_at : (k s : ℕ) (cs : List ℕ) (p : ℕ) → 0 < k → place_from k s cs ≡ suc p → Stands k s cs (suc p)
place_at k s [] p h e = absurd (omega arith)
place_at k s (c ∷ cs) p h e = go (place_at (k + 1) s cs p (omega arith)) (eqb c s) refl
  where
    go : (place_from (k + 1) s cs ≡ suc p → Stands (k + 1) s cs (suc p)) → (t : Bool) → eqb c s ≡ t → Stands k s (c ∷ cs) (suc p)
    go on true f =
        let q : k ≡ suc p = sym (ap (λ (t : Bool). cond t k (place_from (k + 1) s cs)) f) ∙ e in
        (0, omega arith, omega arith, eqb-true c s f)
    go on false f =
        let r = on (sym (ap (λ (t : Bool). cond t k (place_from (k + 1) s cs)) f) ∙ e) in
        (suc r.0, omega (arith, r.1), omega (arith, r.2), r.3)

-- ---- columns that are told from each other
-- one test says it of a given list
abbrev told_at : List ℕ → ℕ → ℕ → ℕ → Bool
told_at cs i j k = not (eqb (bit_xor (get_or cs i 0) (get_or cs j 0)) (get_or (0 ∷ cs) k 0))

abbrev told_pair : List ℕ → ℕ → ℕ → Bool
told_pair cs i j = below (told_at cs i j) (suc (length cs))

abbrev told_row : List ℕ → ℕ → Bool
told_row cs i = below (told_pair cs i) i

pub separate_by_test : (cs : List ℕ) → T (below (told_row cs) (length cs)) → Separate cs
separate_by_test cs t i j k h l m e =
    let row = at (told_row cs) (length cs) t i l in
    let pair = at (told_pair cs i) i row j h in
    let sum = bit_xor (get_or cs i 0) (get_or cs j 0) in
    T_not (eqb sum (get_or (0 ∷ cs) k 0)) (at (told_at cs i j) (suc (length cs)) pair k (omega arith))
    (subst (λ (x : ℕ). T (eqb sum x)) e (eqb_refl sum))

module _ (cs : List ℕ) (separate : Separate cs) where
  -- two columns are never the same
  pub columns_differ : (i j : ℕ) → j < i → i < length cs → get_or cs i 0 ≡ get_or cs j 0 → ⊥
  columns_differ i j h k e = separate i j 0 h k (omega arith) (ap (λ (x : ℕ). bit_xor x (get_or cs j 0)) e ∙ xor_self (get_or cs j 0))

  pub column_place : (i : ℕ) → i < length cs → place_from 1 (get_or cs i 0) cs ≡ suc i
  column_place i h = place_first 1 (get_or cs i 0) cs i h refl (λ j k e. columns_differ i j k h (sym e)) ∙ omega arith

  -- no column is 0
  pub column_set : 1 < length cs → (i : ℕ) → i < length cs → get_or cs i 0 ≡ 0 → ⊥
  column_set two zero h e = separate 1 0 2 (omega arith) two (omega arith) (ap (bit_xor (get_or cs 1 0)) e ∙ xor_zero_r (get_or cs 1 0))
  column_set two (suc i) h e = separate (suc i) 0 1 (omega arith) h (omega arith) (ap (λ (x : ℕ). bit_xor x (get_or cs 0 0)) e)

  -- the sum of two columns is not 0, and stands nowhere
  pub pair_set : (i j : ℕ) → j < i → i < length cs → bit_xor (get_or cs i 0) (get_or cs j 0) ≡ 0 → ⊥
  pair_set i j h k e = separate i j 0 h k (omega arith) e

  pub pair_place : (i j : ℕ) → j < i → i < length cs → place_from 1 (bit_xor (get_or cs i 0) (get_or cs j 0)) cs ≡ 0
  pair_place i j h k = place_none 1 (bit_xor (get_or cs i 0) (get_or cs j 0)) cs (λ m l e. separate i j (suc m) h k (omega arith) (sym e))

-- ---- a good word with one or two bits turned
module _ (cs : List ℕ) (w : ℕ) (good : image cs w ≡ 0) where
  pub one_turned : (i : ℕ) → i < length cs → image cs (turned (length cs) (suc i) w) ≡ get_or cs i 0
  one_turned i h = image_turned cs i w h ∙ ap (λ (x : ℕ). bit_xor x (get_or cs i 0)) good

  pub two_turned : (i j : ℕ) → i < length cs → j < length cs
      → image cs (turned (length cs) (suc j) (turned (length cs) (suc i) w)) ≡ bit_xor (get_or cs i 0) (get_or cs j 0)
  two_turned i j h k =
      image_turned cs j (turned (length cs) (suc i) w) k ∙ ap (λ (x : ℕ). bit_xor x (get_or cs j 0)) (one_turned i h)
