-- Thirty-two shifts at once. A shift keeps exclusive or, and so does what is made of shifts and exclusive or alone; two such
-- maps are the same if they are at the 32 registers with one bit set.
-- Assumes nothing.
use mathlib.Core.Path.{◌≡◌, refl, sym, ap, ap₂, ◌∙◌}
use mathlib.Core.List.{List, [], ◌∷◌, foldr}
use mathlib.Core.Bool.{Bool, true, false}
use Prim.Native.Nat.{ℕ, zero, suc, ◌+◌, ◌-◌, ◌*◌, ◌/◌, ◌%◌, ◌^◌, ◌≤◌, ◌<◌}
use native.Mathlib.Nat.{pow-suc, one-mul, add-zero}
use native.Mathlib.Numerals.{one-add}
use native.Mathlib.Omega.{arith}
use lib.Bits.{bit_xor, xor_shr, xor_mod, xor_block, xor_shifted}
use lib.Dec.{T, ltb, eqb, eqb→eq}
use lib.Pow.{pow-lt, pow_pos, shr-shr, field, mod-mod-pow}
use borrow.Author.Tests.{ltb-true, ltb-false, eqb-true, eqb-false}
use Rattle.base.proofs.Table.{at}
use Rattle.base.proofs.Xor.{xor_bit, xor_odd, xor_swap}
use Rattle.scrambler.specs.Scrambling.{taps, new_bit, next, output}
use Rattle.scrambler.specs.private.Scrambling.{nexts}
use Rattle.scrambler.proofs.Outputs.{new_bit_lt, next_top, nexts_lt, nexts_add, output_new, output_after}

-- ---- maps that keep exclusive or
abbrev Keeps : (ℕ → ℕ) → Type 0
Keeps f = (a b : ℕ) → a < 2 ^ 32 → b < 2 ^ 32 → f (bit_xor a b) ≡ bit_xor (f a) (f b)

-- two of them that agree at 0 and at each single bit agree everywhere
same_maps : (f g : ℕ → ℕ) → Keeps f → Keeps g → f 0 ≡ g 0 → ((k : ℕ) → k < 32 → f (2 ^ k) ≡ g (2 ^ k))
    → (n : ℕ) → n ≤ 32 → (x : ℕ) → x < 2 ^ n → f x ≡ g x
same_maps f g p q z o zero l x h =
    let e : 0 ≡ x = omega arith in
    ap f (sym e) ∙ z ∙ ap g e
same_maps f g p q z o (suc n) l x h = go (same_maps f g p q z o n (omega arith)) (ltb x (2 ^ n)) refl
  where
    go : ((x : ℕ) → x < 2 ^ n → f x ≡ g x) → (b : Bool) → ltb x (2 ^ n) ≡ b → f x ≡ g x
    go ih true e = ih x (ltb-true x (2 ^ n) e)
    go ih false e =
        let r = x - 2 ^ n in
        let k : r < 2 ^ n = omega (arith, ltb-false x (2 ^ n) e, pow-suc 2 n) in
        let w : 1 * 2 ^ n + r ≡ x = omega (arith, ltb-false x (2 ^ n) e) in
        let s : bit_xor (2 ^ n) r ≡ x = ap (λ (y : ℕ). bit_xor y r) (sym (one-mul (2 ^ n))) ∙ xor_shifted 1 n r k ∙ w in
        let u : 2 ^ n < 2 ^ 32 = pow-lt {i = n} {j = 32} l in
        let v : r < 2 ^ 32 = omega arith in
        ap f (sym s) ∙ p (2 ^ n) r u v ∙ ap₂ bit_xor (o n l) (ih r k) ∙ sym (q (2 ^ n) r u v) ∙ ap g s

-- ---- shifts of the register
-- the sum of the register's bits at the places
abbrev tap_sum : List ℕ → ℕ → ℕ
tap_sum ts x = foldr (λ t sum. x / 2 ^ t % 2 + sum) 0 ts

tap_sum_xor : (ts : List ℕ) (a b : ℕ) → tap_sum ts (bit_xor a b) % 2 ≡ (tap_sum ts a + tap_sum ts b) % 2
tap_sum_xor [] a b = refl
tap_sum_xor (t ∷ ts) a b =
    join (a / 2 ^ t) (b / 2 ^ t) (bit_xor a b / 2 ^ t) (tap_sum ts a) (tap_sum ts b) (tap_sum ts (bit_xor a b))
    (ap (λ (n : ℕ). n % 2) (xor_shr a b t) ∙ xor_odd (a / 2 ^ t) (b / 2 ^ t)) (tap_sum_xor ts a b)
  where
    add : (u s r t : ℕ) → u % 2 ≡ s % 2 → r % 2 ≡ t % 2 → (u % 2 + r) % 2 ≡ (s + t) % 2
    add u s r t e f = omega arith

    parts : (p q v w : ℕ) → (p + q + (v + w)) % 2 ≡ (p % 2 + v + (q % 2 + w)) % 2
    parts p q v w = omega arith

    join : (p q u v w r : ℕ) → u % 2 ≡ (p + q) % 2 → r % 2 ≡ (v + w) % 2 → (u % 2 + r) % 2 ≡ (p % 2 + v + (q % 2 + w)) % 2
    join p q u v w r e f = add u (p + q) r (v + w) e f ∙ parts p q v w

new_bit_sum : (a b : ℕ) → new_bit (bit_xor a b) ≡ (new_bit a + new_bit b) % 2
unfolding new_bit
new_bit_sum a b = tap_sum_xor taps a b ∙ parts (tap_sum taps a) (tap_sum taps b)
  where
    parts : (x y : ℕ) → (x + y) % 2 ≡ (x % 2 + y % 2) % 2
    parts x y = omega arith

new_bit_xor : (a b : ℕ) → new_bit (bit_xor a b) ≡ bit_xor (new_bit a) (new_bit b)
new_bit_xor a b = new_bit_sum a b ∙ sym (xor_bit (new_bit a) (new_bit b) (new_bit_lt a) (new_bit_lt b))

next_xor : Keeps next
unfolding next
next_xor a b h k =
    ap₂ (λ (m n : ℕ). m + n * 2 ^ 31) (xor_shr a b 1) (new_bit_xor a b) ∙ swap (bit_xor (a / 2) (b / 2)) (bit_xor (new_bit a) (new_bit b) * 2 ^ 31)
    ∙ sym (xor_block 31 (new_bit a) (new_bit b) (a / 2) (b / 2) (omega arith) (omega arith))
    ∙ ap₂ bit_xor (swap (new_bit a * 2 ^ 31) (a / 2)) (swap (new_bit b * 2 ^ 31) (b / 2))
  where
    swap : (x y : ℕ) → x + y ≡ y + x
    swap x y = omega arith

nexts_xor : (n : ℕ) → Keeps (λ x. nexts x n)
unfolding nexts
nexts_xor zero a b h k = refl
nexts_xor (suc n) a b h k = ap next (nexts_xor n a b h k) ∙ next_xor (nexts a n) (nexts b n) (nexts_lt a n h) (nexts_lt b n k)

-- ---- what the code makes of it
-- the register moved down by each of the numbers, and all of them added to acc
abbrev lowered : ℕ → List ℕ → ℕ → ℕ
lowered acc [] x = acc
lowered acc (t ∷ ts) x = lowered (bit_xor acc (x / 2 ^ t)) ts x

-- the same upwards, within the register
abbrev raised : ℕ → List ℕ → ℕ → ℕ
raised acc [] x = acc
raised acc (t ∷ ts) x = raised (bit_xor acc (x * 2 ^ t % 2 ^ 32)) ts x

lowered_xor : (ts : List ℕ) (p q a b : ℕ) → lowered (bit_xor p q) ts (bit_xor a b) ≡ bit_xor (lowered p ts a) (lowered q ts b)
lowered_xor [] p q a b = refl
lowered_xor (t ∷ ts) p q a b =
    ap (λ (n : ℕ). lowered n ts (bit_xor a b)) (ap (bit_xor (bit_xor p q)) (xor_shr a b t) ∙ xor_swap p q (a / 2 ^ t) (b / 2 ^ t))
    ∙ lowered_xor ts (bit_xor p (a / 2 ^ t)) (bit_xor q (b / 2 ^ t)) a b

xor_raised : (a b t : ℕ) → bit_xor a b * 2 ^ t % 2 ^ 32 ≡ bit_xor (a * 2 ^ t % 2 ^ 32) (b * 2 ^ t % 2 ^ 32)
xor_raised a b t =
    ap (λ (n : ℕ). n % 2 ^ 32)
    (sym (add-zero (bit_xor a b * 2 ^ t)) ∙ sym (xor_block t a b 0 0 (pow_pos t) (pow_pos t)) ∙ ap₂ bit_xor (add-zero (a * 2 ^ t)) (add-zero (b * 2 ^ t)))
    ∙ xor_mod (a * 2 ^ t) (b * 2 ^ t) 32

raised_xor : (ts : List ℕ) (p q a b : ℕ) → raised (bit_xor p q) ts (bit_xor a b) ≡ bit_xor (raised p ts a) (raised q ts b)
raised_xor [] p q a b = refl
raised_xor (t ∷ ts) p q a b =
    ap (λ (n : ℕ). raised n ts (bit_xor a b)) (ap (bit_xor (bit_xor p q)) (xor_raised a b t) ∙ xor_swap p q (a * 2 ^ t % 2 ^ 32) (b * 2 ^ t % 2 ^ 32))
    ∙ raised_xor ts (bit_xor p (a * 2 ^ t % 2 ^ 32)) (bit_xor q (b * 2 ^ t % 2 ^ 32)) a b

-- the taps above bit 0, and how far a tap's sum reaches into later outputs
unfoldable pub downs : List ℕ
downs = 6 ∷ 9 ∷ 10 ∷ 16 ∷ 20 ∷ 21 ∷ 22 ∷ 24 ∷ 25 ∷ 27 ∷ 28 ∷ 30 ∷ 31 ∷ []

unfoldable pub ups : List ℕ
ups = 1 ∷ 3 ∷ 5 ∷ 7 ∷ 9 ∷ 11 ∷ 12 ∷ 16 ∷ 18 ∷ 23 ∷ 27 ∷ 30 ∷ 31 ∷ []

unfoldable pub renewal : ℕ → ℕ
renewal x = raised (lowered x downs x) ups (lowered x downs x)

renewal_xor : Keeps renewal
unfolding renewal
renewal_xor a b h k =
    ap (λ (n : ℕ). raised n ups n) (lowered_xor downs a b a b) ∙ raised_xor ups (lowered a downs a) (lowered b downs b) (lowered a downs a) (lowered b downs b)

agrees : ℕ → Bool
agrees k = eqb (renewal (2 ^ k)) (nexts (2 ^ k) 32)

all_agree : (k : ℕ) → k < 32 → T (agrees k)
unfolding agrees renewal downs ups nexts next new_bit
all_agree k h = at agrees 32 tt k h

none_agree : renewal 0 ≡ nexts 0 32
unfolding renewal downs ups nexts next new_bit
none_agree = refl

pub renewal_shifts : (x : ℕ) → x < 2 ^ 32 → renewal x ≡ nexts x 32
unfolding agrees
renewal_shifts x h =
    same_maps renewal (λ x. nexts x 32) renewal_xor (nexts_xor 32) none_agree
    (λ k l. eqb→eq (renewal (2 ^ k)) (nexts (2 ^ k) 32) (all_agree k l)) 32 (omega arith) x h

-- ---- the outputs in the register
half_shift : (n t : ℕ) → n / 2 / 2 ^ t ≡ n / 2 ^ suc t
half_shift n t = shr-shr n 1 t ∙ ap (λ (e : ℕ). n / 2 ^ e) (one-add t)

-- the bits below k are those of the remainder
pub low_bit : (n k t : ℕ) → t < k → n % 2 ^ k / 2 ^ t % 2 ≡ n / 2 ^ t % 2
low_bit n k t h =
    let e : k ≡ k - suc t + 1 + t = omega arith in
    ap (λ (j : ℕ). n % 2 ^ j / 2 ^ t % 2) e ∙ ap (λ (m : ℕ). m % 2) (field n (k - suc t + 1) t) ∙ mod-mod-pow (n / 2 ^ t) (k - suc t) 1

next_low : (x : ℕ) → x < 2 ^ 32 → next x % 2 ^ 31 ≡ x / 2
unfolding next
next_low x h = omega (arith, new_bit_lt x)

-- an output enters at the top, and goes down a place at each shift
held : (x t n : ℕ) → x < 2 ^ 32 → t < n → n ≤ 32 → nexts x n / 2 ^ (32 - n + t) % 2 ≡ output x t
unfolding nexts
held x t zero h p q = absurd (omega arith)
held x t (suc n) h p q = go (held x t n h) (eqb t n) refl
  where
    go : (t < n → n ≤ 32 → nexts x n / 2 ^ (32 - n + t) % 2 ≡ output x t) → (b : Bool) → eqb t n ≡ b
        → next (nexts x n) / 2 ^ (32 - suc n + t) % 2 ≡ output x t
    go ih true e =
        let s : 32 - suc n + t ≡ 31 = omega (arith, eqb-true t n e) in
        let v : next (nexts x n) / 2 ^ 31 % 2 ≡ output x n = omega (arith, next_top (nexts x n) (nexts_lt x n h), new_bit_lt (nexts x n), output_new x n) in
        ap (λ (k : ℕ). next (nexts x n) / 2 ^ k % 2) s ∙ v ∙ ap (output x) (sym (eqb-true t n e))
    go ih false e =
        let k = 32 - suc n + t in
        let l : t < n = omega (arith, eqb-false t n e) in
        let s : suc k ≡ 32 - n + t = omega arith in
        sym (low_bit (next (nexts x n)) 31 k (omega arith)) ∙ ap (λ (m : ℕ). m / 2 ^ k % 2) (next_low (nexts x n) (nexts_lt x n h))
        ∙ ap (λ (m : ℕ). m % 2) (half_shift (nexts x n) k) ∙ ap (λ (j : ℕ). nexts x n / 2 ^ j % 2) s ∙ ih l (omega arith)

-- ---- a turn of the loops
-- the register is renewed at every thirty-second entry
pub register_more : (x lfsr r i : ℕ) → lfsr ≡ nexts x ((i + 31) / 32 * 32) → (i % 32 ≡ 0 → r ≡ nexts lfsr 32) → ((i % 32 ≡ 0 → ⊥) → r ≡ lfsr)
    → r ≡ nexts x (i / 32 * 32 + 32)
register_more x lfsr r i e p q = go (eqb (i % 32) 0) refl
  where
    go : (t : Bool) → eqb (i % 32) 0 ≡ t → r ≡ nexts x (i / 32 * 32 + 32)
    go true t =
        let z = eqb-true (i % 32) 0 t in
        let m : (i + 31) / 32 * 32 + 32 ≡ i / 32 * 32 + 32 = omega arith in
        p z ∙ ap (λ (y : ℕ). nexts y 32) e ∙ nexts_add x ((i + 31) / 32 * 32) 32 ∙ ap (nexts x) m
    go false t =
        let z = eqb-false (i % 32) 0 t in
        let m : (i + 31) / 32 * 32 ≡ i / 32 * 32 + 32 = omega arith in
        q z ∙ e ∙ ap (nexts x) m

-- one entry on, or four from a place that four divides
pub register_next : (x i : ℕ) → nexts x (i / 32 * 32 + 32) ≡ nexts x ((i + 1 + 31) / 32 * 32)
register_next x i =
    let m : i / 32 * 32 + 32 ≡ (i + 1 + 31) / 32 * 32 = omega arith in
    ap (nexts x) m

pub register_fourth : (x i : ℕ) → i % 4 ≡ 0 → nexts x (i / 32 * 32 + 32) ≡ nexts x ((i + 4 + 31) / 32 * 32)
register_fourth x i h =
    let m : i / 32 * 32 + 32 ≡ (i + 4 + 31) / 32 * 32 = omega arith in
    ap (nexts x) m

-- and holds the entry's output
pub register_output : (x i : ℕ) → x < 2 ^ 32 → nexts x (i / 32 * 32 + 32) / 2 ^ (i % 32) % 2 ≡ output x i
register_output x i h =
    let m : i / 32 * 32 + i % 32 ≡ i = omega arith in
    let s : i % 32 ≡ 32 - 32 + i % 32 = omega arith in
    ap₂ (λ (y k : ℕ). y / 2 ^ k % 2) (sym (nexts_add x (i / 32 * 32) 32)) s
    ∙ held (nexts x (i / 32 * 32)) (i % 32) 32 (nexts_lt x (i / 32 * 32) h) (omega arith) (omega arith)
    ∙ output_after x (i / 32 * 32) (i % 32) ∙ ap (output x) m

-- and those of the three after it
pub register_outputs : (x i e : ℕ) → x < 2 ^ 32 → i % 4 ≡ 0 → e < 4 → nexts x (i / 32 * 32 + 32) / 2 ^ (i % 32) / 2 ^ e % 2 ≡ output x (i + e)
register_outputs x i e h k l =
    let s : i / 32 ≡ (i + e) / 32 = omega arith in
    let m : i % 32 + e ≡ (i + e) % 32 = omega arith in
    ap (λ (n : ℕ). n % 2) (shr-shr (nexts x (i / 32 * 32 + 32)) (i % 32) e)
    ∙ ap₂ (λ (q p : ℕ). nexts x (q * 32 + 32) / 2 ^ p % 2) s m ∙ register_output x (i + e) h
