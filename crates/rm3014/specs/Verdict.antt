-- The verdict on a received word, and what each entry answers.
-- Assumes nothing.
use Rattle.std.specs.Prelude.{ℕ, zero, suc, ◌^◌, leb}
use Rattle.base.specs.Refusal.{Owed, WORD, accepted, when}
use Rattle.linear.specs.Linear.{turned}
use Rattle.rm3014.specs.Code.{data_of, syndrome, place_of}
use Rattle.rm3014.specs.declared.Verdict.{Verdict}
use Rattle.rm3014.specs.declared.Verdict.TheVariants.{Clean, Mended, Beyond}

-- by the syndrome and the place whose column it is: Clean where the syndrome is 0; Beyond where there is no place; Mended at the place, with
-- that bit turned
abbrev pub verdict_by : ℕ → ℕ → ℕ → Verdict
verdict_by zero place word = Clean (data_of word)
verdict_by (suc s) zero word = Beyond (data_of word)
verdict_by (suc s) (suc p) word = Mended (suc p) (data_of (turned 30 (suc p) word))

-- the verdict on a word
abbrev pub verdict : ℕ → Verdict
verdict word = verdict_by (syndrome word) (place_of (syndrome word)) word

-- the 14 bits that a verdict carries
abbrev pub bits_in : Verdict → ℕ
bits_in (Clean bits) = bits
bits_in (Mended place bits) = bits
bits_in (Beyond bits) = bits

-- ---- refusals
-- a number that is not below its limit
abbrev pub bounded : ℕ → ℕ → Owed
bounded limit number = when (leb limit number) WORD accepted

-- data of 16,384 or more
abbrev pub input_refusal : ℕ → Owed
input_refusal input = bounded (2 ^ 14) input

-- a word of 2 ^ 30 or more
abbrev pub word_refusal : ℕ → Owed
word_refusal word = bounded (2 ^ 30) word
