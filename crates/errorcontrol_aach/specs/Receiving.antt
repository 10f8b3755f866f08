-- Receiving the access field: what is made of 30 air bits.
-- Assumes nothing.
use Rattle.std.specs.Prelude.{List, not, ℕ, ltb, length, take, Result}
use Rattle.base.specs.declared.Refusal.{Refusal}
use Rattle.base.specs.Refusal.{Owed, SHORT, BIT, accepted, when, valued}
use Rattle.base.specs.Bits.{bits_only}
use Rattle.base.specs.Digits.{number}
use Rattle.scrambler.specs.Scrambling.{descrambled}
use Rattle.rm3014.specs.declared.Verdict.{Verdict}
use Rattle.rm3014.specs.Verdict.{verdict}

-- the verdict on the word that the 30 air bits say, descrambled, the first its top bit
unfoldable pub verdict_from : ℕ → List ℕ → Verdict
verdict_from start air = verdict (number (descrambled start (take 30 air)))

-- SHORT below 30 air entries, BIT where one of the 30 is no bit
abbrev pub receive_refusal : List ℕ → Owed
receive_refusal air = when (ltb (length air) 30) SHORT (when (not (bits_only 30 air)) BIT accepted)

-- what `decode_aach` answers
abbrev pub answer_of : ℕ → List ℕ → Result Verdict Refusal
answer_of start air = valued (receive_refusal air) (verdict_from start air)
