-- The register and its outputs: bits, from the middle as from the start, and none from 0.
-- Assumes nothing.
use mathlib.Core.Path.{◌≡◌, refl, sym, ap, ◌∙◌}
use Prim.Native.Nat.{ℕ, zero, suc, ◌+◌, ◌/◌, ◌^◌, ◌<◌}
use native.Mathlib.Nat.{add-zero, add-suc}
use native.Mathlib.Omega.{arith}
use Rattle.scrambler.specs.Scrambling.{new_bit, next, output}
use Rattle.scrambler.specs.private.Scrambling.{nexts}

pub new_bit_lt : (x : ℕ) → new_bit x < 2
unfolding new_bit
new_bit_lt x = omega arith

pub next_lt : (x : ℕ) → x < 2 ^ 32 → next x < 2 ^ 32
unfolding next
next_lt x h = omega (arith, new_bit_lt x)

-- the output is the top of the register that it has entered
pub next_top : (x : ℕ) → x < 2 ^ 32 → next x / 2 ^ 31 ≡ new_bit x
unfolding next
next_top x h = omega (arith, new_bit_lt x)

-- ---- n shifts
pub nexts_none : (x : ℕ) → nexts x 0 ≡ x
unfolding nexts
nexts_none x = refl

pub nexts_lt : (x n : ℕ) → x < 2 ^ 32 → nexts x n < 2 ^ 32
unfolding nexts
nexts_lt x zero h = h
nexts_lt x (suc n) h = next_lt (nexts x n) (nexts_lt x n h)

nexts_first : (x n : ℕ) → nexts (next x) n ≡ next (nexts x n)
unfolding nexts
nexts_first x zero = refl
nexts_first x (suc n) = ap next (nexts_first x n)

pub output_new : (x i : ℕ) → output x i ≡ new_bit (nexts x i)
unfolding output nexts
output_new x zero = refl
output_new x (suc i) = output_new (next x) i ∙ ap new_bit (nexts_first x i)

pub nexts_add : (x n i : ℕ) → nexts (nexts x n) i ≡ nexts x (n + i)
unfolding nexts
nexts_add x n zero = rw add-zero
nexts_add x n (suc i) = rw add-suc (ap next (nexts_add x n i))

-- from the middle on
pub output_after : (x n i : ℕ) → output (nexts x n) i ≡ output x (n + i)
output_after x n i = output_new (nexts x n) i ∙ ap new_bit (nexts_add x n i) ∙ sym (output_new x (n + i))

pub output_lt : (x i : ℕ) → output x i < 2
output_lt x i = omega (arith, output_new x i, new_bit_lt (nexts x i))

pub output_zero : (i : ℕ) → output 0 i ≡ 0
unfolding output new_bit next
output_zero zero = refl
output_zero (suc i) = output_zero i
