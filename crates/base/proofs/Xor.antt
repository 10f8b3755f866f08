-- Exclusive or: bits as sums mod 2, and the group that numbers make under it.
-- Assumes nothing.
use mathlib.Core.Path.{◌≡◌, refl, sym, ap, ◌∙◌}
use Prim.Native.Nat.{ℕ, ◌+◌, ◌/◌, ◌%◌, ◌<◌}
use native.Mathlib.Nat.{add_assoc}
use native.Mathlib.Omega.{arith}
use lib.Arith.{bin_ind}
use lib.Bits.{bit_xor, differ, xor_step, xor_shr, xor_comm}
use Rattle.base.proofs.BitLaws.{two_bits}

-- of two bits it is their sum mod 2
pub xor_bit : (a b : ℕ) → a < 2 → b < 2 → bit_xor a b ≡ (a + b) % 2
xor_bit = two_bits (λ a b. bit_xor a b ≡ (a + b) % 2) refl refl refl refl

differ_bit : (x y : ℕ) → x < 2 → y < 2 → differ x y ≡ (x + y) % 2
differ_bit = two_bits (λ x y. differ x y ≡ (x + y) % 2) refl refl refl refl

-- ---- digit by digit
pub xor_half : (a b : ℕ) → bit_xor a b / 2 ≡ bit_xor (a / 2) (b / 2)
xor_half a b = xor_shr a b 1

pub xor_odd : (a b : ℕ) → bit_xor a b % 2 ≡ (a + b) % 2
xor_odd a b = omega (arith, xor_step a b, differ_bit (a % 2) (b % 2) (omega arith) (omega arith))

pub by_digits : (a b : ℕ) → a / 2 ≡ b / 2 → a % 2 ≡ b % 2 → a ≡ b
by_digits a b p q = omega arith

-- a summand counts by its lowest digit alone
odd_l : (u t c : ℕ) → u % 2 ≡ t % 2 → (u + c) % 2 ≡ (t + c) % 2
odd_l u t c e = omega arith

pub odd_r : (u t c : ℕ) → u % 2 ≡ t % 2 → (c + u) % 2 ≡ (c + t) % 2
odd_r u t c e = omega arith

odd_three : (a b c u v : ℕ) → u % 2 ≡ (a + b) % 2 → v % 2 ≡ (b + c) % 2 → (u + c) % 2 ≡ (a + v) % 2
odd_three a b c u v p q = odd_l u (a + b) c p ∙ ap (λ (x : ℕ). x % 2) (add_assoc a b c) ∙ sym (odd_r v (b + c) a q)

pub xor_assoc : (a b c : ℕ) → bit_xor (bit_xor a b) c ≡ bit_xor a (bit_xor b c)
xor_assoc a =
    bin_ind (λ (n : ℕ). (b c : ℕ) → bit_xor (bit_xor n b) c ≡ bit_xor n (bit_xor b c)) (λ b c. refl)
    (λ n ih b c. by_digits (bit_xor (bit_xor n b) c) (bit_xor n (bit_xor b c))
    (xor_half (bit_xor n b) c ∙ ap (λ (x : ℕ). bit_xor x (c / 2)) (xor_half n b) ∙ ih (b / 2) (c / 2)
    ∙ ap (bit_xor (n / 2)) (sym (xor_half b c)) ∙ sym (xor_half n (bit_xor b c)))
    (xor_odd (bit_xor n b) c ∙ odd_three n b c (bit_xor n b) (bit_xor b c) (xor_odd n b) (xor_odd b c) ∙ sym (xor_odd n (bit_xor b c)))) a

-- two sums added are the sum of the first parts and the sum of the second
pub xor_swap : (p q r s : ℕ) → bit_xor (bit_xor p q) (bit_xor r s) ≡ bit_xor (bit_xor p r) (bit_xor q s)
xor_swap p q r s =
    xor_assoc p q (bit_xor r s)
    ∙ ap (bit_xor p) (sym (xor_assoc q r s) ∙ ap (λ (x : ℕ). bit_xor x s) (xor_comm q r) ∙ xor_assoc r q s)
    ∙ sym (xor_assoc p r (bit_xor q s))
