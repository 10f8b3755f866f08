-- What the original decoder makes of a word, in its own form: a syndrome worked out check by check, and the first column that
-- is the syndrome turning its bit.
-- Assumes nothing.
use Rattle.std.specs.Prelude.{List, [], ◌∷◌, map, cond, ℕ, ◌+◌, ◌-◌, ◌/◌, ◌%◌, ◌^◌, eqb, length, get_or}
use Rattle.std.specs.Int.Bits.{bit_xor}
use Rattle.base.specs.Digits.{digits, dot}
use Rattle.base.specs.Places.{tabulate}
use Rattle.rm3014.specs.Code.{table, upwards, columns, data_of}

-- check j: the sum mod 2 of the data bits in column j of the table, and of parity bit j
unfoldable pub check : ℕ → ℕ → ℕ
check word j = (dot (digits 14 (data_of word)) (map (λ (row : List ℕ). get_or row j 0) table) + word / 2 ^ (15 - j) % 2) % 2

-- check j is worth 2 ^ j
unfoldable pub checks : ℕ → ℕ
checks word = upwards (tabulate (check word) 16)

-- the bit of the first column that is the syndrome, turned
abbrev pub corrected : ℕ → List ℕ → ℕ → ℕ
corrected s [] word = word
corrected s (c ∷ cs) word = cond (eqb c s) (bit_xor word (2 ^ length cs)) (corrected s cs word)

unfoldable pub decoded : ℕ → ℕ
decoded word = cond (eqb (checks word) 0) word (corrected (checks word) columns word) / 2 ^ 16
