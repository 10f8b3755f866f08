-- Bits and the number that they say: taken bit by bit, written bit by bit, and with one of them flipped.
-- Assumes nothing.
use mathlib.Core.Path.{◌≡◌, refl, sym, ap, ap₂, ◌∙◌}
use mathlib.Core.List.{List, [], ◌∷◌, ◌++◌}
use mathlib.Core.Bool.{true}
use Prim.Native.Nat.{ℕ, zero, suc, ◌+◌, ◌-◌, ◌*◌, ◌/◌, ◌%◌, ◌^◌, ◌≤◌, ◌<◌}
use native.Mathlib.Numerals.{add-one}
use native.Mathlib.Omega.{arith}
use lib.Bits.{bit_and, bit_xor, and_mask, xor_block, xor_zero_r}
use lib.ListN.{length, take, get_or, set, length-set}
use lib.Pow.{pow_pos, pow-lt, pow_mono}
use lib.Seq.{take-suc, get_or-take, length-take-le}
use Rattle.base.specs.Bits.{Bits, bits_only}
use Rattle.base.specs.Digits.{digits, number}
use Rattle.base.specs.Places.{tabulate}
use Rattle.base.proofs.BitLaws.{bits_of, bits_only_at}
use Rattle.base.proofs.DigitLaws.{digits_length, digits_at, number_from, number_cons, number_lt}
use Rattle.base.proofs.Lists.{tabulate_of}
use Rattle.linear.specs.Linear.{turned}
use Rattle.errorcontrol_aach.specs.Hearing.{flipped}

-- ---- a loop that reads a number
number_last : (n : ℕ) (w : List ℕ) (b : ℕ) → number_from n (w ++ (b ∷ [])) ≡ number_from n w * 2 + b
number_last n [] b = refl
number_last n (x ∷ w) b = number_last (n * 2 + x) w b

pub number_more : (s : List ℕ) (i : ℕ) → i < length s → number (take (i + 1) s) ≡ number (take i s) * 2 + get_or s i 0
number_more s i h = ap (λ (k : ℕ). number (take k s)) (add-one i) ∙ ap number (take-suc s i 0 h) ∙ number_last 0 (take i s) (get_or s i 0)

pub front_bits : (n i : ℕ) (s : List ℕ) → bits_only n s ≡ true → i ≤ n → i ≤ length s → Bits (take i s)
front_bits n i s e h k =
    bits_of (take i s) (λ j l.
    let m : j < i = omega (arith, length-take-le i s k) in
    omega (arith, get_or-take i s j 0 m, bits_only_at n j s e (omega arith) (omega arith)))

pub front_lt : (n i : ℕ) (s : List ℕ) → bits_only n s ≡ true → i ≤ n → i ≤ length s → number (take i s) < 2 ^ i
front_lt n i s e h k =
    let l : 2 ^ length (take i s) ≡ 2 ^ i = ap (λ (x : ℕ). 2 ^ x) (length-take-le i s k) in
    omega (arith, l, number_lt (take i s) (front_bits n i s e h k))

pub whole_lt : (s : List ℕ) → bits_only (length s) s ≡ true → number s < 2 ^ length s
whole_lt s e = number_lt s (bits_of s (λ j l. bits_only_at (length s) j s e l l))

-- what the loop holds fits 30 bits
pub sum_fits : (i sum : ℕ) (s : List ℕ) → length s ≤ 30 → bits_only (length s) s ≡ true → i < length s → sum ≡ number (take i s) → sum * 2 + get_or s i 0 < 2 ^ 30
sum_fits i sum s h e k f =
    let m : 2 ^ (i + 1) ≤ 2 ^ 30 = pow_mono {i = i + 1} {j = 30} (omega arith) in
    omega (arith, m, f, number_more s i (omega arith), front_lt (length s) (i + 1) s e (omega arith) (omega arith))

-- ---- a loop that writes a number
pub digits_tabulate : (k n : ℕ) → digits k n ≡ tabulate (λ j. n / 2 ^ (k - 1 - j) % 2) k
digits_tabulate k n = tabulate_of (digits k n) (λ j. n / 2 ^ (k - 1 - j) % 2) k (digits_length k n) (λ j h. digits_at k n j h)

pub lowest_bit : (n : ℕ) → bit_and n 1 ≡ n % 2
lowest_bit n = and_mask n 1

-- ---- a flipped bit
flip_lt : (b : ℕ) → 1 - b < 2
flip_lt b = omega arith

flip_xor : (b : ℕ) → b < 2 → 1 - b ≡ bit_xor b 1
flip_xor zero h = refl
flip_xor (suc zero) h = refl
flip_xor (suc (suc b)) h = absurd (omega arith)

pub flipped_length : (p : ℕ) (w : List ℕ) → length (flipped p w) ≡ length w
flipped_length p w = length-set w (p - 1) (1 - get_or w (p - 1) 0)

pub flipped_bits : (p : ℕ) (w : List ℕ) → Bits w → Bits (flipped p w)
flipped_bits p w b = go (p - 1) w b
  where
    go : (i : ℕ) (w : List ℕ) → Bits w → Bits (set w i (1 - get_or w i 0))
    go i [] b = b
    go zero (x ∷ w) b = (flip_lt x, b.1)
    go (suc i) (x ∷ w) b = (b.0, go i w b.1)

-- a word with one bit flipped is the number with that place turned
pub number_flipped : (p : ℕ) (w : List ℕ) → Bits w → 0 < p → p ≤ length w → number (flipped p w) ≡ turned (length w) p (number w)
number_flipped p w b h k =
    let e : suc (p - 1) ≡ p = omega arith in
    go (p - 1) w b (omega arith) ∙ ap (λ (x : ℕ). turned (length w) x (number w)) e
  where
    go : (i : ℕ) (w : List ℕ) → Bits w → i < length w → number (set w i (1 - get_or w i 0)) ≡ turned (length w) (suc i) (number w)
    go i [] b h = absurd (omega arith)
    go zero (x ∷ w) b h =
        let n = length w in
        let e : suc n - 1 ≡ n = omega arith in
        number_cons (1 - x) w ∙ ap₂ (λ (y z : ℕ). y * 2 ^ n + z) (flip_xor x b.0) (sym (xor_zero_r (number w)))
        ∙ sym (xor_block n x 1 (number w) 0 (number_lt w b.1) (pow_pos n))
        ∙ ap₂ bit_xor (sym (number_cons x w)) (one (2 ^ n) ∙ ap (λ (m : ℕ). 2 ^ m) (sym e))
      where
        one : (q : ℕ) → 1 * q + 0 ≡ q
        one q = omega arith
    go (suc i) (x ∷ w) b h =
        let n = length w in
        let e : suc n - suc (suc i) ≡ n - suc i = omega arith in
        number_cons x (set w i (1 - get_or w i 0))
        ∙ ap₂ (λ (m z : ℕ). x * 2 ^ m + z) (length-set w i (1 - get_or w i 0)) (go i w b.1 (omega arith))
        ∙ ap (λ (y : ℕ). y * 2 ^ n + bit_xor (number w) (2 ^ (n - suc i))) (sym (xor_zero_r x))
        ∙ sym (xor_block n x 0 (number w) (2 ^ (n - suc i)) (number_lt w b.1) (pow-lt {i = n - suc i} {j = n} (omega arith)))
        ∙ ap₂ bit_xor (sym (number_cons x w)) (none (2 ^ n) (2 ^ (n - suc i)) ∙ ap (λ (m : ℕ). 2 ^ m) (sym e))
      where
        none : (q r : ℕ) → 0 * q + r ≡ r
        none q r = omega arith
