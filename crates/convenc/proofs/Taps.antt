-- A generator's taps: sums mod 2 of the window's bits are what the code makes by exclusive or.
-- Assumes nothing.
use mathlib.Core.Path.{◌≡◌, refl, sym, ap, ap₂, subst, ◌∙◌}
use mathlib.Core.List.{List, [], ◌∷◌}
use mathlib.Core.Bool.{Bool, true, false}
use Prim.Native.Nat.{ℕ, zero, suc, ◌+◌, ◌*◌, ◌/◌, ◌%◌, ◌<◌}
use native.Mathlib.Omega.{arith}
use lib.ListN.{length, get_or}
use lib.Dec.{T, eqb, eqb→eq}
use lib.Bits.{bit_xor}
use lib.Seq.{take-length}
use Rattle.base.specs.Bits.{Bits, both, bits_only}
use Rattle.base.specs.Digits.{digits, number, dot}
use Rattle.base.proofs.Xor.{xor_bit}
use Rattle.base.proofs.BitLaws.{bits_at, bits_only_bits}
use Rattle.base.proofs.Table.{both_left, both_right}
use Rattle.convenc.specs.Generators.{tapped, outputs}
use Rattle.convenc.specs.private.Tapping.{proper, xors, picks, taps}
use Rattle.convenc.proofs.Delays.{Four, four}

abbrev sum : List ℕ → ℕ
sum [] = 0
sum (y ∷ ys) = y + sum ys

xors_sum : (x : ℕ) (ys : List ℕ) → x < 2 → Bits ys → xors x ys ≡ (x + sum ys) % 2
xors_sum x [] h b = omega arith
xors_sum x (y ∷ ys) h b =
    let e = xor_bit x y h b.0 in
    xors_sum (bit_xor x y) ys (omega arith) b.1 ∙ omega arith

holds : (t : Bool) → T t → t ≡ true
holds true t = refl
holds false t = absurd t

-- the window of a bit and four delays, taken apart again
window : (b p q r s : ℕ) → b < 2 → p < 2 → q < 2 → r < 2 → s < 2 → digits 5 (16 * b + number (p ∷ q ∷ r ∷ s ∷ [])) ≡ b ∷ p ∷ q ∷ r ∷ s ∷ []
window b p q r s hb hp hq hr hs = cc (first, second, third, fourth, fifth)
  where
    first : (16 * b + number (p ∷ q ∷ r ∷ s ∷ [])) / 16 % 2 ≡ b
    first = omega arith

    second : (16 * b + number (p ∷ q ∷ r ∷ s ∷ [])) / 8 % 2 ≡ p
    second = omega arith

    third : (16 * b + number (p ∷ q ∷ r ∷ s ∷ [])) / 4 % 2 ≡ q
    third = omega arith

    fourth : (16 * b + number (p ∷ q ∷ r ∷ s ∷ [])) / 2 % 2 ≡ r
    fourth = omega arith

    fifth : (16 * b + number (p ∷ q ∷ r ∷ s ∷ [])) / 1 % 2 ≡ s
    fifth = omega arith

picks_bits : (cs d : List ℕ) → Bits d → Bits (picks cs d)
picks_bits [] d k = tt
picks_bits (c ∷ cs) [] k = tt
picks_bits (zero ∷ cs) (x ∷ d) k = picks_bits cs d k.1
picks_bits (suc c ∷ cs) (x ∷ d) k = (k.0, picks_bits cs d k.1)

picks_dot : (cs d : List ℕ) → Bits cs → sum (picks cs d) ≡ dot cs d
picks_dot [] d k = refl
picks_dot (c ∷ cs) [] k = refl
picks_dot (zero ∷ cs) (x ∷ d) k = omega (arith, picks_dot cs d k.1)
picks_dot (suc zero ∷ cs) (x ∷ d) k = omega (arith, picks_dot cs d k.1)
picks_dot (suc (suc c) ∷ cs) (x ∷ d) k = absurd (omega (arith, k.0))

taps_window : (code : List (List ℕ)) → T (proper code) → (b : ℕ) (d : List ℕ) → b < 2 → Four d → taps code b d ≡ outputs code (16 * b + number d)
unfolding tapped
taps_window [] t b d h f = refl
taps_window ([] ∷ code) t b d h f = absurd t
taps_window ((c ∷ cs) ∷ code) t b d h f = ap₂ (λ (x : ℕ) (l : List ℕ). x ∷ l) (one refl) (taps_window code (both_right (bits_only (length cs) cs) (proper code) rest) b d h f)
  where
    rest : T (both (bits_only (length cs) cs) (proper code))
    rest = both_right (eqb c 1) (both (bits_only (length cs) cs) (proper code)) t

    leads : c ≡ 1
    leads = eqb→eq c 1 (both_left (eqb c 1) (both (bits_only (length cs) cs) (proper code)) t)

    bits : Bits cs
    bits = subst Bits (take-length cs) (bits_only_bits (length cs) cs (holds (bits_only (length cs) cs) (both_left (bits_only (length cs) cs) (proper code) rest)))

    apart : digits 5 (16 * b + number d) ≡ b ∷ d
    apart =
        ap (λ (l : List ℕ). digits 5 (16 * b + number l)) (four d f.len)
        ∙ window b (get_or d 0 0) (get_or d 1 0) (get_or d 2 0) (get_or d 3 0) h (bits_at d f.bits 0) (bits_at d f.bits 1) (bits_at d f.bits 2) (bits_at d f.bits 3)
        ∙ ap (λ (l : List ℕ). b ∷ l) (sym (four d f.len))

    one : {y : ℕ} → y ≡ dot (c ∷ cs) (digits 5 (16 * b + number d)) % 2 → xors b (picks cs d) ≡ y
    one e =
        xors_sum b (picks cs d) h (picks_bits cs d f.bits)
        ∙ ap (λ (x : ℕ). x % 2) (ap₂ (λ (x y : ℕ). x + y) (omega (arith, ap (λ (x : ℕ). x * b) leads)) (picks_dot cs d bits))
        ∙ ap (λ (l : List ℕ). dot (c ∷ cs) l % 2) (sym apart) ∙ sym e

pub taps_outputs : (code : List (List ℕ)) → proper code ≡ true → (b : ℕ) (d : List ℕ) → b < 2 → Four d → taps code b d ≡ outputs code (16 * b + number d)
taps_outputs code t b d h f = taps_window code (subst T (sym t) tt) b d h f
