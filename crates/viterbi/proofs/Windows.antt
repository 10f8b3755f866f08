-- What a branch score stands for: the cost of the window whose oldest bit is 0, among the step's known symbols.
-- Assumes nothing.
use mathlib.Core.Path.{◌≡◌, refl, sym, ap, ap₂, ◌∙◌, subst⁻¹}
use mathlib.Core.List.{List, [], ◌∷◌}
use Prim.Native.Nat.{ℕ, zero, suc, ◌+◌, ◌*◌, ◌/◌, ◌%◌, ◌-◌, ◌≤◌, ◌<◌}
use native.Mathlib.Omega.{arith}
use lib.IntN.{ℤ, pos, ◌+ℤ◌}
use lib.ListN.{length, get_or, take, drop}
use lib.Seq.{drop-cons}
use Rattle.base.specs.Bits.{Bits, disagrees, known}
use Rattle.base.specs.Places.{tabulate}
use Rattle.base.proofs.BitLaws.{disagrees_other, bits_tabulate}
use Rattle.trellis.specs.Nearest.{distance, total}
use Rattle.viterbi.specs.private.Scores.{up, down, Stands, Sign, bit_of, mirrored, sign_at, Table, turned, told, score_of, branch_of}
use Rattle.viterbi.proofs.Signed.{add_parts}
use Rattle.viterbi.proofs.Branches.{by_sign}
use Rattle.viterbi.proofs.States.{mirrored_lt, mirrored_back}

-- ---- one symbol
sign_bit : (e : ℤ) → Sign e → bit_of e < 2
sign_bit = by_sign (λ (e : ℤ). bit_of e < 2) (omega arith) (omega arith)

symbol_stands : (r : ℕ) (e : ℤ) → Sign e → Stands (score_of r e) (disagrees r (bit_of e)) (known r)
symbol_stands zero e h = by_sign (λ (e : ℤ). Stands (score_of 0 e) (disagrees 0 (bit_of e)) (known 0)) refl refl e h
symbol_stands (suc zero) e h = by_sign (λ (e : ℤ). Stands (score_of 1 e) (disagrees 1 (bit_of e)) (known 1)) refl refl e h
symbol_stands (suc (suc r)) e h = refl

nothing_stands : (r : ℕ) (e : ℤ) → e ≡ pos 0 → Stands (score_of r e) 0 0
nothing_stands zero e q = subst⁻¹ (λ (x : ℤ). Stands (score_of 0 x) 0 0) q refl
nothing_stands (suc zero) e q = subst⁻¹ (λ (x : ℤ). Stands (score_of 1 x) 0 0) q refl
nothing_stands (suc (suc r)) e q = refl

-- ---- the symbols of a step
next : (l : List ℕ) (i j k : ℕ) → i < length l → j ≡ suc i → take (suc k) (drop i l) ≡ get_or l i 0 ∷ take k (drop j l)
next l i j k h e = ap (take (suc k)) (drop-cons l i 0 h) ∙ ap (λ (x : ℕ). get_or l i 0 ∷ take k (drop x l)) (sym e)

three : (l : List ℕ) (at : ℕ) → at + 3 ≤ length l → take 3 (drop at l) ≡ get_or l at 0 ∷ get_or l (at + 1) 0 ∷ get_or l (at + 2) 0 ∷ []
three l at h =
    next l at (at + 1) 2 (omega arith) (omega arith)
    ∙ ap (λ (x : List ℕ). get_or l at 0 ∷ x)
    (next l (at + 1) (at + 2) 1 (omega arith) (omega arith) ∙ ap (λ (x : List ℕ). get_or l (at + 1) 0 ∷ x) (next l (at + 2) (at + 3) 0 (omega arith) (omega arith)))

four : (l : List ℕ) (at : ℕ) → at + 4 ≤ length l → take 4 (drop at l) ≡ get_or l at 0 ∷ get_or l (at + 1) 0 ∷ get_or l (at + 2) 0 ∷ get_or l (at + 3) 0 ∷ []
four l at h =
    next l at (at + 1) 3 (omega arith) (omega arith)
    ∙ ap (λ (x : List ℕ). get_or l at 0 ∷ x)
    (next l (at + 1) (at + 2) 2 (omega arith) (omega arith)
    ∙ ap (λ (x : List ℕ). get_or l (at + 1) 0 ∷ x)
    (next l (at + 2) (at + 3) 1 (omega arith) (omega arith) ∙ ap (λ (x : List ℕ). get_or l (at + 2) 0 ∷ x) (next l (at + 3) (at + 4) 0 (omega arith) (omega arith))))

-- ---- a window by its state and its oldest bit
told_is : (k : ℕ) (t : List (List ℤ)) (x s : ℕ) → x < 2 → s < 16 → told k t (2 * mirrored s + x) ≡ tabulate (λ j. turned x (bit_of (sign_at t j s))) k
told_is k t x s l h =
    let p : (2 * mirrored s + x) % 2 ≡ x = omega arith in
    let q : (2 * mirrored s + x) / 2 ≡ mirrored s = omega arith in
    ap₂ (λ (x y : ℕ). tabulate (λ j. turned x (bit_of (sign_at t j y))) k) p (ap mirrored q ∙ mirrored_back s h)

-- ---- a step of three symbols, or of four
module _ (t : List (List ℤ)) (src : List ℕ) (at s : ℕ) (hs : s < 16) where
  -- what generator j expects
  y : ℕ → ℕ
  y j = bit_of (sign_at t j s)

  -- what symbol i adds by generator j
  z : ℕ → ℕ → ℤ
  z i j = score_of i (sign_at t j s)

  signed : (k : ℕ) → Table k t → (i j : ℕ) → j < k → Stands (z i j) (disagrees i (y j)) (known i)
  unfolding y z
  signed k h i j l = symbol_stands i (sign_at t j s) (h.signs j s l hs)

  sum : (p q r o : ℤ) → up (p +ℤ q +ℤ r +ℤ o) + (down p + down q + down r + down o) ≡ (up p + up q + up r + up o) + down (p +ℤ q +ℤ r +ℤ o)
  sum p q r o = omega (arith, add_parts p q, add_parts (p +ℤ q) r, add_parts (p +ℤ q +ℤ r) o)

  stands_three : Table 3 t → at + 3 ≤ length src → Stands (branch_of t 3 src at s) (distance disagrees (take 3 (drop at src)) (tabulate y 3)) (total known (take 3 (drop at src)))
  unfolding tabulate z
  stands_three h room =
      let a = get_or src at 0 in
      let b = get_or src (at + 1) 0 in
      let c = get_or src (at + 2) 0 in
      rw (three src at room)
      (omega (
        arith,
        sum (z a 0) (z b 1) (z c 2) (z c 3),
        signed 3 h a 0 (omega arith),
        signed 3 h b 1 (omega arith),
        signed 3 h c 2 (omega arith),
        nothing_stands c (sign_at t 3 s) (h.rest 3 s (omega arith) (omega arith) hs),
      ))

  stands_four : Table 4 t → at + 4 ≤ length src → Stands (branch_of t 4 src at s) (distance disagrees (take 4 (drop at src)) (tabulate y 4)) (total known (take 4 (drop at src)))
  unfolding tabulate z
  stands_four h room =
      let a = get_or src at 0 in
      let b = get_or src (at + 1) 0 in
      let c = get_or src (at + 2) 0 in
      let d = get_or src (at + 3) 0 in
      rw (four src at room)
      (omega (
        arith,
        sum (z a 0) (z b 1) (z c 2) (z d 3),
        signed 4 h a 0 (omega arith),
        signed 4 h b 1 (omega arith),
        signed 4 h c 2 (omega arith),
        signed 4 h d 3 (omega arith),
      ))

  expects : (k : ℕ) → Table k t → (j : ℕ) → j < k → y j < 2
  unfolding y
  expects k h j l = sign_bit (sign_at t j s) (h.signs j s l hs)

  other_three : Table 3 t → at + 3 ≤ length src
      → distance disagrees (take 3 (drop at src)) (tabulate y 3) + distance disagrees (take 3 (drop at src)) (tabulate (λ j. 1 - y j) 3) ≡ total known (take 3 (drop at src))
  unfolding tabulate
  other_three h room =
      rw (three src at room)
      (omega (
        arith,
        disagrees_other (get_or src at 0) (y 0) (expects 3 h 0 (omega arith)),
        disagrees_other (get_or src (at + 1) 0) (y 1) (expects 3 h 1 (omega arith)),
        disagrees_other (get_or src (at + 2) 0) (y 2) (expects 3 h 2 (omega arith)),
      ))

  other_four : Table 4 t → at + 4 ≤ length src
      → distance disagrees (take 4 (drop at src)) (tabulate y 4) + distance disagrees (take 4 (drop at src)) (tabulate (λ j. 1 - y j) 4) ≡ total known (take 4 (drop at src))
  unfolding tabulate
  other_four h room =
      rw (four src at room)
      (omega (
        arith,
        disagrees_other (get_or src at 0) (y 0) (expects 4 h 0 (omega arith)),
        disagrees_other (get_or src (at + 1) 0) (y 1) (expects 4 h 1 (omega arith)),
        disagrees_other (get_or src (at + 2) 0) (y 2) (expects 4 h 2 (omega arith)),
        disagrees_other (get_or src (at + 3) 0) (y 3) (expects 4 h 3 (omega arith)),
      ))

  by_width : (P : ℕ → Type 0) → P 3 → P 4 → (k : ℕ) → 2 < k → k < 5 → P k
  by_width P a b zero h l = absurd (omega arith)
  by_width P a b (suc zero) h l = absurd (omega arith)
  by_width P a b (suc (suc zero)) h l = absurd (omega arith)
  by_width P a b (suc (suc (suc zero))) h l = a
  by_width P a b (suc (suc (suc (suc zero)))) h l = b
  by_width P a b (suc (suc (suc (suc (suc k))))) h l = absurd (omega arith)

  pub branch_stands : (k : ℕ) → Table k t → at + k ≤ length src
      → Stands (branch_of t k src at s) (distance disagrees (take k (drop at src)) (told k t (2 * mirrored s + 0))) (total known (take k (drop at src)))
  unfolding y
  branch_stands k h room =
      rw (told_is k t 0 s (omega arith) hs)
      (by_width (λ (k : ℕ). Table k t → at + k ≤ length src → Stands (branch_of t k src at s) (distance disagrees (take k (drop at src)) (tabulate y k)) (total known (take k (drop at src))))
      stands_three stands_four k h.least h.most h room)

  -- the two windows into a state disagree with each known symbol once
  pub branch_other : (k : ℕ) → Table k t → at + k ≤ length src
      → distance disagrees (take k (drop at src)) (told k t (2 * mirrored s + 0)) + distance disagrees (take k (drop at src)) (told k t (2 * mirrored s + 1)) ≡ total known (take k (drop at src))
  unfolding y
  branch_other k h room =
      rw (told_is k t 0 s (omega arith) hs, told_is k t 1 s (omega arith) hs)
      (by_width (λ (k : ℕ). Table k t → at + k ≤ length src → distance disagrees (take k (drop at src)) (tabulate y k) + distance disagrees (take k (drop at src)) (tabulate (λ j. 1 - y j) k) ≡ total known (take k (drop at src)))
      other_three other_four k h.least h.most h room)

-- ---- what the table says of a window is bits
turned_lt : (x b : ℕ) → b < 2 → turned x b < 2
turned_lt zero b h = h
turned_lt (suc x) b h = omega arith

pub told_bits : (k : ℕ) (t : List (List ℤ)) → Table k t → (x : ℕ) → x < 32 → Bits (told k t x)
told_bits k t h x b =
    bits_tabulate (λ j. turned (x % 2) (bit_of (sign_at t j s))) k (λ j l. turned_lt (x % 2) (bit_of (sign_at t j s)) (sign_bit (sign_at t j s) (h.signs j s l (mirrored_lt (x / 2)))))
  where
    s : ℕ
    s = mirrored (x / 2)
