-- The scrambling register of EN 300 392-2, 8.2.5, and what sending and receiving make of a block.
-- Assumes nothing.
use mathlib.Core.List.{List, [], ◌∷◌, foldr}
use Rattle.std.specs.Prelude.{not, ℕ, zero, suc, ◌+◌, ◌*◌, ◌/◌, ◌%◌, ◌^◌, ltb, length, get_or}
use Rattle.base.specs.Refusal.{Owed, BIT, FIELD, accepted, when}
use Rattle.base.specs.Bits.{bits_only, ERASED}
use Rattle.base.specs.Places.{tabulate}

-- the bits of the register that are summed
abbrev pub taps : List ℕ
taps = 0 ∷ 6 ∷ 9 ∷ 10 ∷ 16 ∷ 20 ∷ 21 ∷ 22 ∷ 24 ∷ 25 ∷ 27 ∷ 28 ∷ 30 ∷ 31 ∷ []

-- the new bit is the sum of the taps mod 2
unfoldable pub new_bit : ℕ → ℕ
new_bit x = foldr (λ t sum. x / 2 ^ t % 2 + sum) 0 taps % 2

-- shift right; the new bit enters at 31
unfoldable pub next : ℕ → ℕ
next x = x / 2 + new_bit x * 2 ^ 31

-- output i from the start x, counted from 0
unfoldable pub output : ℕ → ℕ → ℕ
output x zero = new_bit x
output x (suc i) = output (next x) i

-- ---- the start value
-- FIELD where mcc is over 1,023, mnc over 16,383 or colour over 63
abbrev pub field_refusal : ℕ → ℕ → ℕ → Owed
field_refusal mcc mnc colour =
    when (ltb 1023 mcc) FIELD (when (ltb 16383 mnc) FIELD (when (ltb 63 colour) FIELD accepted))

-- 4 times (colour + 64 mnc + 2^20 mcc), plus 3; colour 0 gives 0, as in the Rust
unfoldable pub start_value : ℕ → ℕ → ℕ → ℕ
start_value mcc mnc zero = 0
start_value mcc mnc (suc c) = 4 * (suc c + 64 * mnc + 2 ^ 20 * mcc) + 3

-- ---- a block
-- sending adds the outputs to the bits mod 2
abbrev pub scrambled : ℕ → List ℕ → List ℕ
scrambled x block = tabulate (λ i. (get_or block i 0 + output x i) % 2) (length block)

-- BIT where an entry of the block is no bit
abbrev pub send_refusal : List ℕ → Owed
send_refusal block = when (not (bits_only (length block) block)) BIT accepted

-- receiving does the same to 0 and 1, and turns every other byte to an erasure
abbrev pub descrambled_symbol : ℕ → ℕ → ℕ
descrambled_symbol zero y = y
descrambled_symbol (suc zero) y = (1 + y) % 2
descrambled_symbol (suc (suc r)) y = ERASED

-- each symbol of a block with its output
abbrev pub descrambled : ℕ → List ℕ → List ℕ
descrambled x block = tabulate (λ i. descrambled_symbol (get_or block i 0) (output x i)) (length block)
