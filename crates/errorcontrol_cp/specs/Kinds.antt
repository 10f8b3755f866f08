-- The control channels by kind (EN 300 392-2, 8.3.1): 1 is BSCH, 2 is SCH/HU, 3 is SCH/HD, BNCH and STCH, 4 is SCH/F.
-- Assumes nothing.
use Rattle.std.specs.Prelude.{List, [], ◌∷◌, Bool, ℕ, ◌-◌, ltb, get_or}
use Rattle.base.specs.Bits.{both}

unfoldable pub is_kind : ℕ → Bool
is_kind kind = both (ltb 0 kind) (ltb kind 5)

-- a row for each kind: data bits, word bits, air symbols, the interleaver's a
abbrev pub kinds : List (List ℕ)
kinds =
    (60 ∷ 80 ∷ 120 ∷ 11 ∷ [])
    ∷ (92 ∷ 112 ∷ 168 ∷ 13 ∷ [])
    ∷ (124 ∷ 144 ∷ 216 ∷ 101 ∷ [])
    ∷ (268 ∷ 288 ∷ 432 ∷ 103 ∷ [])
    ∷ []

abbrev row : ℕ → List ℕ
row kind = get_or kinds (kind - 1) []

unfoldable pub data_bits : ℕ → ℕ
data_bits kind = get_or (row kind) 0 0

unfoldable pub word_bits : ℕ → ℕ
word_bits kind = get_or (row kind) 1 0

unfoldable pub air_symbols : ℕ → ℕ
air_symbols kind = get_or (row kind) 2 0

unfoldable pub interleaver_step : ℕ → ℕ
interleaver_step kind = get_or (row kind) 3 0
