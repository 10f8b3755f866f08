-- What the functions of the receiving form promise one another.
-- Assumes nothing.
use Rattle.std.specs.Prelude.{◌≡◌, List, [], ℕ, ◌+◌, ◌*◌, ◌/◌, ◌%◌, ◌^◌, ◌<◌, length, get_or}
use Rattle.base.specs.Places.{tabulate, written}
use Rattle.scrambler.specs.Scrambling.{output, descrambled_symbol}
use Rattle.scrambler.specs.private.Scrambling.{nexts}

-- row n has the bits of n, the lowest first
abbrev pub Spreads : List (List ℕ) → Type 0
Spreads rows = (n e : ℕ) → n < 16 → e < 4 → get_or (get_or rows n []) e 0 ≡ n / 2 ^ e % 2

-- k symbols of a block from `at` on have their outputs taken off: if f is what came before them and what they are to be, the
-- block that f has written as far as `at` is now written as far as `at + k`
abbrev pub Taken : List ℕ → ℕ → ℕ → List ℕ → List ℕ → Type 0
Taken outputs k at b b' =
    (length b' ≡ length b) × ((f : ℕ → ℕ) (d : List ℕ) → b ≡ written (tabulate f at) d → length d ≡ length b
    → ((e : ℕ) → e < 4 → f (at + e) ≡ descrambled_symbol (get_or d (at + e) 0) (get_or outputs e 0)) → b' ≡ written (tabulate f (at + k)) d)

-- the first i symbols of the block b have their outputs taken off, and r holds the output before place i
pub record Begun (x i r : ℕ) (b b' : List ℕ) : Type 0 where
  pub register : r ≡ nexts x ((i + 31) / 32 * 32)
  pub long : length b' ≡ length b
  pub entries : b' ≡ written (tabulate (λ j. descrambled_symbol (get_or b j 0) (output x j)) i) b
