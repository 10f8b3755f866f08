-- The dividend's entries.
-- Assumes nothing.
use mathlib.Core.Path.{◌≡◌, sym, ◌∙◌}
use mathlib.Core.List.{List}
use Prim.Native.Nat.{ℕ, ◌-◌, ◌%◌, ◌<◌}
use native.Mathlib.Omega.{arith}
use lib.ListN.{length, drop, get_or, replicate, length-append, get_or-append}
use lib.Seq.{drop_at}
use Rattle.base.specs.Bits.{Bits}
use Rattle.base.specs.Places.{tabulate}
use Rattle.base.proofs.Lists.{tabulate_length, tabulate_at}
use Rattle.base.proofs.BitLaws.{bits_append, bits_tabulate}
use Rattle.speech_crc.specs.Check.{data_bits, dividend}

-- entry j of the dividend
abbrev pub last_first : List ℕ → ℕ → ℕ
last_first src j = get_or (data_bits src) (59 - j) 0

entry_is : (src : List ℕ) (j : ℕ) → get_or src (59 - j) 0 % 2 ≡ last_first src j
entry_is src j = sym (tabulate_at (λ i. get_or src i 0 % 2) 60 (59 - j) (omega arith))

pub dividend_length : (bits : List ℕ) → length (dividend bits) ≡ 67
dividend_length bits =
    omega (arith, length-append (tabulate (λ i. get_or bits (59 - i) 0) 60) (replicate 7 0), tabulate_length (λ i. get_or bits (59 - i) 0) 60)

-- what the data leave of it
pub dividend_end : (bits : List ℕ) → drop 60 (dividend bits) ≡ replicate 7 0
dividend_end bits = drop_at (tabulate (λ i. get_or bits (59 - i) 0) 60) (replicate 7 0) 60 (tabulate_length (λ i. get_or bits (59 - i) 0) 60)

pub dividend_at : (src : List ℕ) (i : ℕ) → i < 60 → get_or (dividend (data_bits src)) i 0 ≡ get_or src (59 - i) 0 % 2
dividend_at src i h =
    get_or-append (tabulate (last_first src) 60) (replicate 7 0) 0 i (omega (arith, tabulate_length (last_first src) 60))
    ∙ tabulate_at (last_first src) 60 i h ∙ sym (entry_is src i)

-- the dividend is made of bits
pub dividend_bits : (src : List ℕ) → Bits (dividend (data_bits src))
dividend_bits src =
    bits_append (tabulate (last_first src) 60) (replicate 7 0)
    (bits_tabulate (last_first src) 60 (λ i h. omega (arith, entry_is src i))) (zeros 7)
  where
    zeros : (n : ℕ) → Bits (replicate n 0)
    zeros Prim.Native.Nat.zero = tt
    zeros (Prim.Native.Nat.suc n) = (omega arith, zeros n)
