-- The check register of ITU-T, a bit at a time, and the control check of EN 300 392-2, 8.2.3.3.
-- Assumes nothing.
use mathlib.Core.List.{List, foldl}
use Rattle.std.specs.Prelude.{ℕ, ◌+◌, ◌-◌, ◌*◌, ◌/◌, ◌%◌, ◌^◌, ltb, length, get_or}
use Rattle.std.specs.Int.Bits.{bit_xor}
use Rattle.base.specs.Refusal.{Owed, SHORT, accepted, when}
use Rattle.base.specs.Digits.{digits}

-- the generator without its top term
abbrev pub GENERATOR : ℕ
GENERATOR = 0x1021

-- what data and its check leave
abbrev pub OK : ℕ
OK = 0x1d0f

-- the bit is added to the top bit; the register shifts left, and the generator is added if the top was set
unfoldable pub step : ℕ → ℕ → ℕ
step reg b = bit_xor (reg * 2 % 65536) ((reg / 32768 + b) % 2 * GENERATOR)

-- the register after the bits, each the lowest bit of its entry
unfoldable pub register : ℕ → List ℕ → ℕ
register = foldl step

-- bit i of bytes, the most significant of each first
abbrev pub bit_of : List ℕ → ℕ → ℕ
bit_of bytes i = get_or bytes (i / 8) 0 / 2 ^ (7 - i % 8) % 2

-- the byte form is SHORT past 8 times the length
abbrev pub bytes_refusal : List ℕ → ℕ → Owed
bytes_refusal bytes n = when (ltb (8 * length bytes) n) SHORT accepted

-- the 16 check bits of data: register from all ones, complemented, most significant bit first
unfoldable pub check : List ℕ → List ℕ
check block = digits 16 (0xffff - register 0xffff block)
