-- Sending the access field: 14 data bits; the Reed-Muller code; the scrambler.
-- Assumes nothing.
use Rattle.std.specs.Prelude.{List, not, ℕ, length, take}
use Rattle.base.specs.Refusal.{Owed, BIT, accepted, when, sized}
use Rattle.base.specs.Bits.{bits_only}
use Rattle.base.specs.Digits.{digits, number}
use Rattle.scrambler.specs.Scrambling.{scrambled}
use Rattle.rm3014.specs.Code.{code_word}

-- the 30 air bits of 14 data bits: the code word of the number that they say, its top bit first, scrambled
unfoldable pub sent : ℕ → List ℕ → List ℕ
sent start bits = scrambled start (digits 30 (code_word (number (take 14 bits))))

-- SHORT below 14 data entries, ROOM below 30 target entries, BIT where one of the 14 is no bit
abbrev pub send_refusal : List ℕ → ℕ → Owed
send_refusal bits air = sized (length bits) 14 air 30 (when (not (bits_only 14 bits)) BIT accepted)
