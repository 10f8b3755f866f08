-- Words of bits: backwards, cut short, and all zeros.
-- Assumes nothing.
use mathlib.Core.Path.{◌≡◌, refl, ap, ◌∙◌}
use mathlib.Core.List.{List, [], ◌∷◌, ◌++◌, reverse, reverse_aux, reverse-cons}
use Prim.Native.Nat.{ℕ, zero, suc, ◌+◌, ◌*◌, ◌/◌}
use native.Mathlib.Omega.{arith}
use lib.ListN.{length, drop, get_or, replicate, length-replicate}
use Rattle.base.specs.Bits.{Bits}
use Rattle.trellis.specs.private.Nearest.{after}
use Rattle.trellis.specs.Trellis.{state}

bits_reverse_onto : (w v : List ℕ) → Bits w → Bits v → Bits (reverse_aux w v)
bits_reverse_onto [] v p q = q
bits_reverse_onto (b ∷ w) v p q = bits_reverse_onto w (b ∷ v) p.1 (p.0, q)

pub bits_reverse : (w : List ℕ) → Bits w → Bits (reverse w)
bits_reverse w p = bits_reverse_onto w [] p tt

pub bits_drop : (n : ℕ) (w : List ℕ) → Bits w → Bits (drop n w)
bits_drop zero w b = b
bits_drop (suc n) [] b = tt
bits_drop (suc n) (x ∷ w) b = bits_drop n w b.1

-- ---- the state after a word, from its first bit on or from its last
after_more : (s b : ℕ) (w : List ℕ) → after s (w ++ (b ∷ [])) ≡ 8 * b + after s w / 2
after_more s b [] = refl
after_more s b (c ∷ w) = after_more (8 * c + s / 2) b w

pub after_state : (s : ℕ) (w : List ℕ) → after s (reverse w) ≡ state s w
after_state s [] = refl
after_state s (b ∷ w) = ap (after s) (reverse-cons b w) ∙ after_more s b (reverse w) ∙ ap (λ (x : ℕ). 8 * b + x / 2) (after_state s w)

-- ---- all zeros
pub zeros_length : (n : ℕ) → length {A = ℕ} (replicate n 0) ≡ n
zeros_length n = length-replicate n 0

pub zeros_bits : (n : ℕ) → Bits (replicate n 0)
zeros_bits zero = tt
zeros_bits (suc n) = (omega arith, zeros_bits n)

pub zeros_at : (n i : ℕ) → get_or {A = ℕ} (replicate n 0) i 0 ≡ 0
zeros_at zero i = refl
zeros_at (suc n) zero = refl
zeros_at (suc n) (suc i) = zeros_at n i

same_zeros : (n m : ℕ) → n ≡ m → replicate {A = ℕ} n 0 ≡ replicate m 0
same_zeros n m e = ap (λ (k : ℕ). replicate k 0) e

zeros_reverse_onto : (n m : ℕ) → reverse_aux {A = ℕ} (replicate n 0) (replicate m 0) ≡ replicate (n + m) 0
zeros_reverse_onto zero m = same_zeros m (0 + m) (omega arith)
zeros_reverse_onto (suc n) m = zeros_reverse_onto n (suc m) ∙ same_zeros (n + suc m) (suc n + m) (omega arith)

pub zeros_reverse : (n : ℕ) → reverse {A = ℕ} (replicate n 0) ≡ replicate n 0
zeros_reverse n = zeros_reverse_onto n 0 ∙ same_zeros (n + 0) n (omega arith)
