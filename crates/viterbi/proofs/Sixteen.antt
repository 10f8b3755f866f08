-- Loops over the sixteen states: an array whose entry s is written at turn s, and a number whose digits are put below the others.
-- Assumes nothing.
use mathlib.Core.Path.{◌≡◌, sym, ap, ◌∙◌}
use mathlib.Core.List.{List}
use Prim.Native.Nat.{ℕ, zero, suc, ◌+◌, ◌*◌, ◌/◌, ◌%◌, ◌^◌, ◌-◌, ◌≤◌, ◌<◌}
use native.Mathlib.Nat.{div-div-eq-div-mul, pow-succ', pow-le-pow_right}
use native.Mathlib.Omega.{arith}
use borrow.Author.Count.{below_more}
use lib.IntN.{ℤ, pos}
use lib.ListN.{length, get_or, set}
use lib.Seq.{get_or-set_same, get_or-set_other}
use Rattle.viterbi.specs.private.Scores.{Marks}

-- ---- entries
pub filled_more : (f : ℕ → ℤ) (zs : List ℤ) (s : ℕ) (z : ℤ) → s < length zs → ((j : ℕ) → j < s → get_or zs j (pos 0) ≡ f j) → z ≡ f s
    → (j : ℕ) → j < s + 1 → get_or (set zs s z) j (pos 0) ≡ f j
filled_more f zs s z h all here =
    below_more (λ (j : ℕ). get_or (set zs s z) j (pos 0) ≡ f j) s (λ j l. get_or-set_other zs s j z (pos 0) (omega arith) ∙ all j l)
    (get_or-set_same zs s z (pos 0) h ∙ here)

-- ---- digits
half : (n k : ℕ) → n / 2 ^ suc k ≡ n / 2 / 2 ^ k
half n k = ap (λ (x : ℕ). n / x) (pow-succ' 2 k) ∙ sym (div-div-eq-div-mul n 2 (2 ^ k))

-- the number of n digits, f s the lowest and f (s + 1) the next
abbrev pub number : (ℕ → ℕ) → ℕ → ℕ → ℕ
number f s zero = 0
number f s (suc n) = f s + 2 * number f (suc s) n

-- a pair of digits below the others
pub number_pair : (f : ℕ → ℕ) (s r t x y : ℕ) → s ≡ r + 2 → s ≤ 16 → t ≡ number f s (16 - s) → x ≡ f r → y ≡ f (r + 1)
    → t * 4 + (x + 2 * y) ≡ number f r (16 - r)
number_pair f s r t x y h l e p q =
    let n : 16 - r ≡ suc (suc (16 - s)) = omega arith in
    let u : suc r ≡ r + 1 = omega arith in
    let v : suc (r + 1) ≡ s = omega arith in
    rw (n, u, v) (omega arith)

module _ (f : ℕ → ℕ) (bit : (j : ℕ) → f j < 2) where
  number_lt : (s n : ℕ) → number f s n < 2 ^ n
  number_lt s zero = omega arith
  number_lt s (suc n) = rw (pow-succ' 2 n) (omega (arith, bit s, number_lt (suc s) n))

  -- there is room for two digits more
  pub number_room : (s t : ℕ) → 2 ≤ s → s ≤ 16 → t ≡ number f s (16 - s) → t < 16384
  number_room s t h l e = omega (arith, number_lt s (16 - s), pow-le-pow_right {n = 2} (omega arith) {i = 16 - s} {j = 14} (omega arith))

  number_digit : (s n j : ℕ) → j < n → number f s n / 2 ^ j % 2 ≡ f (s + j)
  number_digit s zero j h = absurd (omega arith)
  number_digit s (suc n) zero h =
      let e : s ≡ s + 0 = omega arith in
      omega (arith, bit s, ap f e)
  number_digit s (suc n) (suc j) h =
      let e : number f s (suc n) / 2 ≡ number f (suc s) n = omega (arith, bit s) in
      let i : suc s + j ≡ s + suc j = omega arith in
      ap (λ (x : ℕ). x % 2) (half (number f s (suc n)) j ∙ ap (λ (x : ℕ). x / 2 ^ j) e) ∙ number_digit (suc s) n j (omega arith) ∙ ap f i

  pub number_marks : (s t : ℕ) → s ≡ 0 → t ≡ number f s (16 - s) → Marks f t
  number_marks s t z e j h =
      let i : 0 + j ≡ j = omega arith in
      ap (λ (x : ℕ). x / 2 ^ j % 2) (e ∙ ap (λ (x : ℕ). number f x (16 - x)) z) ∙ number_digit 0 16 j h ∙ ap f i
