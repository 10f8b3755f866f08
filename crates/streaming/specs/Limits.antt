-- How far the library can count, and how long a record can be.
-- Assumes nothing.
use Rattle.std.specs.Prelude.{ℕ}

-- the largest number that a line can have
abbrev pub LARGEST : ℕ
LARGEST = 18446744073709551615

-- the bytes of the longest record
abbrev pub LONGEST : ℕ
LONGEST = 437
