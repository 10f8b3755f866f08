-- Laws of numbers written as bits, the most significant first.
-- Assumes nothing.
use mathlib.Core.Path.{◌≡◌, refl, sym, ap, ap₂, ◌∙◌}
use mathlib.Core.List.{List, [], ◌∷◌, foldl}
use Prim.Native.Nat.{ℕ, zero, suc, ◌+◌, ◌*◌, ◌/◌, ◌%◌, ◌^◌, ◌-◌, ◌<◌}
use native.Mathlib.Nat.{pow-suc, div-div-eq-div-mul, mul_comm, mul_assoc, add-mul, add_assoc, div-add-mod'}
use native.Mathlib.Omega.{arith}
use lib.ListN.{length, get_or}
use Rattle.base.specs.Bits.{Bits}
use Rattle.base.specs.Digits.{digits, number}

pub digits_length : (k n : ℕ) → length (digits k n) ≡ k
digits_length zero n = refl
digits_length (suc k) n = ap suc (digits_length k n)

pub digits_bits : (k n : ℕ) → Bits (digits k n)
digits_bits zero n = tt
digits_bits (suc k) n = (omega arith, digits_bits k n)

-- digit j from the left
pub digits_at : (k n j : ℕ) → j < k → get_or (digits k n) j 0 ≡ n / 2 ^ (k - 1 - j) % 2
digits_at zero n j h = absurd (omega arith)
digits_at (suc k) n zero h = ap (λ (e : ℕ). n / 2 ^ e % 2) (omega arith)
digits_at (suc k) n (suc j) h =
    let e : k - 1 - j ≡ suc k - 1 - suc j = omega arith in
    digits_at k n j (omega arith) ∙ ap (λ (x : ℕ). n / 2 ^ x % 2) e

-- the number that the digits say, after n
abbrev pub number_from : ℕ → List ℕ → ℕ
number_from = foldl (λ n b. n * 2 + b)

lead : (b : ℕ) (w : List ℕ) → number (b ∷ w) ≡ number_from b w
lead b w =
    let e : 0 * 2 + b ≡ b = omega arith in
    ap (λ (m : ℕ). number_from m w) e

-- what stands before the digits, moved up, and the digits' own number
pub number_from_lem : (n : ℕ) (w : List ℕ) → number_from n w ≡ n * 2 ^ length w + number w
number_from_lem n [] = omega arith
number_from_lem n (b ∷ w) =
    number_from_lem (n * 2 + b) w ∙ up (2 ^ length w) (2 ^ suc (length w)) (number w) (pow-suc 2 (length w))
    ∙ ap (λ (x : ℕ). n * 2 ^ suc (length w) + x) (sym (lead b w ∙ number_from_lem b w))
  where
    up : (p q r : ℕ) → q ≡ p * 2 → (n * 2 + b) * p + r ≡ n * q + (b * p + r)
    up p q r e =
        ap (λ (x : ℕ). x + r) (add-mul (n * 2) b p ∙ ap (λ (x : ℕ). x + b * p) (mul_assoc n 2 p ∙ ap (λ (x : ℕ). n * x) (mul_comm 2 p ∙ sym e)))
        ∙ add_assoc (n * q) (b * p) r

-- the first digit is worth the power of two of what follows
pub number_cons : (b : ℕ) (w : List ℕ) → number (b ∷ w) ≡ b * 2 ^ length w + number w
number_cons b w = lead b w ∙ number_from_lem b w

pub number_lt : (w : List ℕ) → Bits w → number w < 2 ^ length w
number_lt [] b = omega arith
number_lt (x ∷ w) b = go x b.0 (number_cons x w) (number_lt w b.1) (pow-suc 2 (length w))
  where
    go : (y : ℕ) → y < 2 → {m : ℕ} → m ≡ y * 2 ^ length w + number w → number w < 2 ^ length w → {q : ℕ} → q ≡ 2 ^ length w * 2 → m < q
    go zero h e l p = omega arith
    go (suc zero) h e l p = omega arith
    go (suc (suc y)) h e l p = absurd (omega arith)

-- ---- a number and its digits say the same
half_power : (n k : ℕ) → n / 2 ^ suc k ≡ n / 2 ^ k / 2
half_power n k = ap (λ (x : ℕ). n / x) (pow-suc 2 k) ∙ sym (div-div-eq-div-mul n (2 ^ k) 2)

mod_power : (n k : ℕ) → n / 2 ^ k % 2 * 2 ^ k + n % 2 ^ k ≡ n % 2 ^ suc k
mod_power n k =
    split (2 ^ k) (n / 2 ^ k) (n % 2 ^ k) (div-add-mod' n (2 ^ k)) (n / 2 ^ suc k) (half_power n k) (2 ^ suc k) (pow-suc 2 k) (n % 2 ^ suc k)
    (div-add-mod' n (2 ^ suc k))
  where
    split : (p q r : ℕ) → q * p + r ≡ n → (h : ℕ) → h ≡ q / 2 → (d : ℕ) → d ≡ p * 2 → (m : ℕ) → h * d + m ≡ n → q % 2 * p + r ≡ m
    split p q r e h f d g m i =
        let a : q ≡ q / 2 * 2 + q % 2 = omega arith in
        let b : q * p ≡ q / 2 * 2 * p + q % 2 * p = ap (λ (x : ℕ). x * p) a ∙ add-mul (q / 2 * 2) (q % 2) p in
        let c : h * d ≡ q / 2 * 2 * p = ap₂ (λ (x y : ℕ). x * y) f (g ∙ mul_comm p 2) ∙ sym (mul_assoc (q / 2) 2 p) in
        omega (arith, b, c)

pub number_digits : (k n : ℕ) → number (digits k n) ≡ n % 2 ^ k
number_digits zero n = omega arith
number_digits (suc k) n =
    number_cons (n / 2 ^ k % 2) (digits k n)
    ∙ ap₂ (λ (l x : ℕ). n / 2 ^ k % 2 * 2 ^ l + x) (digits_length k n) (number_digits k n)
    ∙ mod_power n k
