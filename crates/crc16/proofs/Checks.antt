-- Data followed by its check leaves OK, and no other 16 bits do. The register after 16 bits is what 16 zeros make of
-- the register with the bits added to it, and a zero's step loses nothing.
-- Assumes nothing.
use mathlib.Core.Path.{◌≡◌, refl, sym, ap, ap₂, ◌∙◌}
use mathlib.Core.List.{List, [], ◌∷◌, ◌++◌}
use Prim.Native.Nat.{ℕ, zero, suc, ◌+◌, ◌-◌, ◌*◌, ◌/◌, ◌%◌, ◌^◌, ◌<◌}
use native.Mathlib.Nat.{mul-div_cancel, mul-mod_left, pow-suc, mul_assoc, add-mul, mul-lt-mul_of_pos_right}
use native.Mathlib.Omega.{arith}
use lib.Bits.{bit_xor, xor_lt, xor_shr, xor_mod, xor_block, xor_self, xor_zero_r, xor_zero_l, xor_shifted, xor_comm, xor_add_and, and_mask}
use lib.ListN.{length}
use lib.Pow.{pow_pos, pow-add, high, low}
use Rattle.base.proofs.BitLaws.{two_bits}
use Rattle.base.specs.Bits.{Bits}
use Rattle.base.specs.Digits.{digits, number}
use Rattle.base.proofs.DigitLaws.{digits_length, digits_bits, digits_at, number_cons, number_lt, number_digits}
use Rattle.base.specs.Places.{tabulate}
use Rattle.base.proofs.Lists.{tabulate_of}
use Rattle.base.proofs.Xor.{xor_bit, xor_odd, xor_assoc, xor_swap}
use Rattle.crc16.specs.Crc.{GENERATOR, OK, step, register, check}
use Rattle.crc16.proofs.Steps.{step_lt, register_lt, register_append, register_none, register_cons}

-- ---- lists of bits that say the same number are the same
pub number_same : (v w : List ℕ) → Bits v → Bits w → length v ≡ length w → number v ≡ number w → v ≡ w
number_same [] [] p q l e = refl
number_same [] (b ∷ w) p q l e = absurd (omega arith)
number_same (a ∷ v) [] p q l e = absurd (omega arith)
number_same (a ∷ v) (b ∷ w) p q l e =
    let m : length v ≡ length w = omega arith in
    let k = length w in
    let hw : number w < 2 ^ k = number_lt w q.1 in
    let hv : number v < 2 ^ k = omega (arith, number_lt v p.1, ap (λ (x : ℕ). 2 ^ x) m) in
    let s : a * 2 ^ k + number v ≡ b * 2 ^ k + number w = ap (λ (x : ℕ). a * 2 ^ x + number v) (sym m) ∙ sym (number_cons a v) ∙ e ∙ number_cons b w in
    ap₂ (λ (x : ℕ) (xs : List ℕ). x ∷ xs) (sym (high a k hv) ∙ ap (λ (x : ℕ). x / 2 ^ k) s ∙ high b k hw)
    (number_same v w p.1 q.1 m (sym (low a k hv) ∙ ap (λ (x : ℕ). x % 2 ^ k) s ∙ low b k hw))

-- ---- sums of numbers without carries
pub xor_undo : (a b : ℕ) → bit_xor a (bit_xor a b) ≡ b
xor_undo a b = sym (xor_assoc a a b) ∙ ap (λ (x : ℕ). bit_xor x b) (xor_self a) ∙ xor_zero_l b

xor_cancel : (a b c : ℕ) → bit_xor a c ≡ bit_xor b c → a ≡ b
xor_cancel a b c e = sym (xor_undo c a) ∙ ap (bit_xor c) (xor_comm c a ∙ e ∙ xor_comm b c) ∙ xor_undo c b

-- all ones added take a number to what it lacks of all ones
pub xor_ones : (a : ℕ) → a < 65536 → bit_xor a 0xffff ≡ 0xffff - a
xor_ones a h = omega (arith, xor_add_and a 0xffff, and_mask a 16)

xor_double : (a b : ℕ) → bit_xor a b * 2 ≡ bit_xor (a * 2) (b * 2)
xor_double a b =
    let p : a * 2 + 0 ≡ a * 2 = omega arith in
    let q : b * 2 + 0 ≡ b * 2 = omega arith in
    let r : bit_xor a b * 2 ≡ bit_xor a b * 2 + 0 = omega arith in
    r ∙ sym (xor_block 1 a b 0 0 (omega arith) (omega arith)) ∙ ap₂ bit_xor p q

-- ---- a zero's step
generator_xor : (p q : ℕ) → p < 2 → q < 2 → (p + q) % 2 * GENERATOR ≡ bit_xor (p * GENERATOR) (q * GENERATOR)
generator_xor = two_bits (λ p q. (p + q) % 2 * GENERATOR ≡ bit_xor (p * GENERATOR) (q * GENERATOR)) refl refl refl refl

-- it takes a sum to the sum
zero_xor : (x y : ℕ) → step (bit_xor x y) 0 ≡ bit_xor (step x 0) (step y 0)
unfolding step
zero_xor x y =
    ap₂ bit_xor (ap (λ (n : ℕ). n % 65536) (xor_double x y) ∙ xor_mod (x * 2) (y * 2) 16)
    (ap (λ (n : ℕ). n * GENERATOR) tops ∙ generator_xor ((x / 32768 + 0) % 2) ((y / 32768 + 0) % 2) (omega arith) (omega arith))
    ∙ xor_swap (x * 2 % 65536) (y * 2 % 65536) ((x / 32768 + 0) % 2 * GENERATOR) ((y / 32768 + 0) % 2 * GENERATOR)
  where
    tops : (bit_xor x y / 32768 + 0) % 2 ≡ ((x / 32768 + 0) % 2 + (y / 32768 + 0) % 2) % 2
    tops = omega (arith, xor_shr x y 15, xor_odd (x / 32768) (y / 32768))

-- a bit's step is the zero's step after the bit is added on top
top_step : (reg b : ℕ) → reg < 65536 → b < 2 → step reg b ≡ step (bit_xor reg (b * 32768)) 0
unfolding step
top_step reg b h k = ap₂ bit_xor shifted (ap (λ (n : ℕ). n * GENERATOR) tops)
  where
    lows : bit_xor reg (b * 32768) % 32768 ≡ reg % 32768
    lows = xor_mod reg (b * 32768) 15 ∙ ap (bit_xor (reg % 32768)) (mul-mod_left b 32768) ∙ xor_zero_r (reg % 32768)

    shifted : reg * 2 % 65536 ≡ bit_xor reg (b * 32768) * 2 % 65536
    shifted = omega (arith, lows)

    tops : (reg / 32768 + b) % 2 ≡ (bit_xor reg (b * 32768) / 32768 + 0) % 2
    tops =
        omega (arith, xor_shr reg (b * 32768) 15 ∙ ap (bit_xor (reg / 32768)) (mul-div_cancel b (pow_pos 15)) ∙ xor_bit (reg / 32768) b (omega arith) k)

-- it doubles what has no top bit
low_step : (v : ℕ) → v < 32768 → step v 0 ≡ v * 2
unfolding step
low_step v h =
    let p : v * 2 % 65536 ≡ v * 2 = omega arith in
    let q : (v / 32768 + 0) % 2 * GENERATOR ≡ 0 = omega arith in
    ap₂ bit_xor p q ∙ xor_zero_r (v * 2)

even_and : (e t : ℕ) → e % 2 ≡ 0 → (e + t * GENERATOR) % 2 ≡ t % 2
even_and e t h = omega arith

-- the generator is odd, so the lowest bit tells whether it was added
zero_odd : (x : ℕ) → step x 0 % 2 ≡ x / 32768 % 2
unfolding step
zero_odd x =
    let e : x * 2 % 65536 % 2 ≡ 0 = omega arith in
    let t : (x / 32768 + 0) % 2 % 2 ≡ x / 32768 % 2 = omega arith in
    xor_odd (x * 2 % 65536) ((x / 32768 + 0) % 2 * GENERATOR) ∙ even_and (x * 2 % 65536) ((x / 32768 + 0) % 2) e ∙ t

zero_low : (x y : ℕ) → x / 32768 ≡ y / 32768 → step x 0 ≡ step y 0 → x * 2 % 65536 ≡ y * 2 % 65536
unfolding step
zero_low x y t e =
    xor_cancel (x * 2 % 65536) (y * 2 % 65536) ((x / 32768 + 0) % 2 * GENERATOR)
    (e ∙ ap (λ (n : ℕ). bit_xor (y * 2 % 65536) ((n + 0) % 2 * GENERATOR)) (sym t))

doubled : (x : ℕ) → x * 2 % 65536 ≡ x % 32768 * 2
doubled x = omega arith

-- and the step loses nothing
zero_same : (x y : ℕ) → x < 65536 → y < 65536 → step x 0 ≡ step y 0 → x ≡ y
zero_same x y h k e =
    let t : x / 32768 ≡ y / 32768 = omega (arith, zero_odd x, zero_odd y, ap (λ (n : ℕ). n % 2) e) in
    omega (arith, t, zero_low x y t e, doubled x, doubled y)

-- ---- k zeros
unfoldable zeros : ℕ → ℕ → ℕ
zeros zero x = x
zeros (suc k) x = zeros k (step x 0)

zeros_same : (k x y : ℕ) → x < 65536 → y < 65536 → zeros k x ≡ zeros k y → x ≡ y
unfolding zeros
zeros_same zero x y h g e = e
zeros_same (suc k) x y h g e = zero_same x y h g (zeros_same k (step x 0) (step y 0) (step_lt x 0) (step_lt y 0) e)

-- sixteen zeros after all ones
ones_leave : zeros 16 0xffff ≡ OK
unfolding zeros step
ones_leave = refl

-- a bit on top of others, and the others moved up with the register
top_and_rest : (reg b k m n w : ℕ) → reg < 65536 → b < 2 → k + m ≡ 15 → n < 2 ^ k → w ≡ b * 2 ^ k + n
    → step (bit_xor reg (w * 2 ^ m)) 0 ≡ bit_xor (step reg b) (n * 2 ^ suc m)
top_and_rest reg b k m n w h q l lt e =
    let power : 2 ^ k * 2 ^ m ≡ 32768 = sym (pow-add 2 k m) ∙ ap (λ (x : ℕ). 2 ^ x) l in
    let below : n * 2 ^ m < 32768 = omega (arith, mul-lt-mul_of_pos_right lt (pow_pos m), power) in
    let split : w * 2 ^ m ≡ b * 32768 + n * 2 ^ m =
    ap (λ (x : ℕ). x * 2 ^ m) e ∙ add-mul (b * 2 ^ k) n (2 ^ m) ∙ ap (λ (x : ℕ). x + n * 2 ^ m) (mul_assoc b (2 ^ k) (2 ^ m) ∙ ap (λ (x : ℕ). b * x) power)
    in
    ap (λ (x : ℕ). step (bit_xor reg x) 0) (split ∙ sym (xor_shifted b 15 (n * 2 ^ m) below))
    ∙ ap (λ (x : ℕ). step x 0) (sym (xor_assoc reg (b * 32768) (n * 2 ^ m)))
    ∙ zero_xor (bit_xor reg (b * 32768)) (n * 2 ^ m)
    ∙ ap₂ bit_xor (sym (top_step reg b h q)) (low_step (n * 2 ^ m) below ∙ mul_assoc n (2 ^ m) 2 ∙ ap (λ (x : ℕ). n * x) (sym (pow-suc 2 m)))

-- the register after c is what as many zeros make of it once c is added to its top, m places above its end
zeros_of : (c : List ℕ) (m reg : ℕ) → Bits c → length c + m ≡ 16 → reg < 65536
    → register reg c ≡ zeros (length c) (bit_xor reg (number c * 2 ^ m))
unfolding zeros
zeros_of [] m reg p l h =
    let z : 0 * 2 ^ m ≡ 0 = omega arith in
    register_none reg ∙ sym (ap (bit_xor reg) z ∙ xor_zero_r reg)
zeros_of (b ∷ c) m reg p l h =
    register_cons reg b c ∙ zeros_of c (suc m) (step reg b) p.1 (omega arith) (step_lt reg b)
    ∙ ap (zeros (length c))
    (sym (top_and_rest reg b (length c) m (number c) (number (b ∷ c)) h p.0 (omega arith) (number_lt c p.1) (number_cons b c)))

-- ---- the law
-- sixteen bits are added to the whole register
sixteen : (reg : ℕ) (c : List ℕ) → reg < 65536 → Bits c → length c ≡ 16 → register reg c ≡ zeros 16 (bit_xor reg (number c))
sixteen reg c h p l =
    let e : number c * 2 ^ 0 ≡ number c = omega arith in
    zeros_of c 0 reg p (omega arith) h ∙ ap₂ (λ (k n : ℕ). zeros k (bit_xor reg n)) l e

complement : (reg n : ℕ) → reg < 65536 → n ≡ 0xffff - reg → bit_xor reg n ≡ 0xffff
complement reg n h e = ap (bit_xor reg) (e ∙ sym (xor_ones reg h)) ∙ xor_undo reg 0xffff

complement_only : (reg n : ℕ) → reg < 65536 → bit_xor reg n ≡ 0xffff → n ≡ 0xffff - reg
complement_only reg n h e = sym (xor_undo reg n) ∙ ap (bit_xor reg) e ∙ xor_ones reg h

check_digits : (block : List ℕ) → check block ≡ digits 16 (0xffff - register 0xffff block)
unfolding check
check_digits block = refl

pub check_bits : (block : List ℕ) → Bits (check block)
check_bits block = rw check_digits (digits_bits 16 (0xffff - register 0xffff block))

pub check_length : (block : List ℕ) → length (check block) ≡ 16
check_length block = rw check_digits (digits_length 16 (0xffff - register 0xffff block))

pub check_number : (block : List ℕ) → number (check block) ≡ 0xffff - register 0xffff block
check_number block =
    let m : (0xffff - register 0xffff block) % 65536 ≡ 0xffff - register 0xffff block = omega arith in
    rw check_digits (number_digits 16 (0xffff - register 0xffff block) ∙ m)

-- check bit j of a register's complement
abbrev pub check_bit : ℕ → ℕ → ℕ
check_bit complement j = complement / 2 ^ (15 - j) % 2

pub check_tabulate : (block : List ℕ) (complement : ℕ) → complement ≡ 0xffff - register 0xffff block → tabulate (check_bit complement) 16 ≡ check block
check_tabulate block complement e =
    sym (check_digits block ∙ ap (digits 16) (sym e) ∙ tabulate_of (digits 16 complement) (check_bit complement) 16 (digits_length 16 complement) (digits_at 16 complement))

-- data and its check leave OK, whatever the data
pub leaves_ok : (block : List ℕ) → register 0xffff (block ++ check block) ≡ OK
leaves_ok block =
    let h = register_lt 0xffff block (omega arith) in
    register_append 0xffff block (check block)
    ∙ sixteen (register 0xffff block) (check block) h (check_bits block) (check_length block)
    ∙ ap (zeros 16) (complement (register 0xffff block) (number (check block)) h (check_number block)) ∙ ones_leave

-- and no other 16 bits after the data do
pub only_check : (block c : List ℕ) → Bits c → length c ≡ 16 → register 0xffff (block ++ c) ≡ OK → c ≡ check block
only_check block c p l e =
    let h = register_lt 0xffff block (omega arith) in
    let n = xor_lt 16 (register 0xffff block) (number c) h (omega (arith, number_lt c p, ap (λ (k : ℕ). 2 ^ k) l)) in
    let ones = zeros_same 16 (bit_xor (register 0xffff block) (number c)) 0xffff n (omega arith)
    (sym (sixteen (register 0xffff block) c h p l) ∙ sym (register_append 0xffff block c) ∙ e ∙ sym ones_leave) in
    number_same c (check block) p (check_bits block) (l ∙ sym (check_length block))
    (complement_only (register 0xffff block) (number c) h ones ∙ sym (check_number block))
