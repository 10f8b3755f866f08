-- Sending a speech slot (EN 300 395-2, 5.5): 274 codec bits as 432 air symbols, or as the last 216 of them.
-- Assumes nothing.
use Rattle.std.specs.Prelude.{List, ◌++◌, not, ℕ, ◌-◌, length, take, drop, replicate}
use Rattle.base.specs.Refusal.{Owed, BIT, accepted, when, sized}
use Rattle.base.specs.Bits.{bits_only}
use Rattle.trellis.specs.Nearest.{encode}
use Rattle.convenc.specs.Generators.{outputs, speech}
use Rattle.puncturing.specs.Puncturing.{punctured}
use Rattle.interleaver.specs.Interleaving.{matrix_interleaved}
use Rattle.scrambler.specs.Scrambling.{scrambled}
use Rattle.tch_reorder.specs.Order.{channel_of}
use Rattle.speech_crc.specs.Check.{speech_check}
use Rattle.stages.specs.Entries.{SendEntry}

-- the word of 274 bits in channel order, which are 102 uncoded, 112 of class 1 and 60 of class 2: class 1, class 2, its eight check bits, four zeros
unfoldable pub word_of : List ℕ → List ℕ
word_of channel =
    take 112 (drop 102 channel) ++ take 60 (drop 214 channel) ++ speech_check (take 60 (drop 214 channel)) ++ replicate 4 0

-- the 330 coded symbols of a word, by one encoder that is not reset: mode 4, 112_168, keeps 168 outputs of its first 112 bits,
-- and mode 5, 72_162, keeps 162 outputs of the other 72, from their own first place
unfoldable pub coded : List ℕ → List ℕ
coded w = punctured 4 168 (take 336 (encode (outputs speech) 0 w)) ++ punctured 5 162 (drop 336 (encode (outputs speech) 0 w))

-- a block of 432 symbols, through the matrix of 24 lines and 18 columns, scrambled
unfoldable pub on_air : ℕ → List ℕ → List ℕ
on_air start block = scrambled start (matrix_interleaved 24 18 block (replicate 432 0))

-- the slot that 274 codec bits are sent as: the uncoded ones, then the coded symbols
unfoldable pub slot : ℕ → List ℕ → List ℕ
slot start codec = on_air start (take 102 (channel_of codec) ++ coded (word_of (channel_of codec)))

abbrev pub send_refusal : ℕ → List ℕ → ℕ → Owed
send_refusal count codec air = sized (length codec) 274 air count (when (not (bits_only 274 codec)) BIT accepted)

-- what `encode_tp` answers and leaves in its target for 432 symbols, and `encode_tp_half` for the last 216: entries 217 to 432
abbrev pub Sends : ℕ → ℕ → List ℕ → List ℕ → Owed → List ℕ → Type 0
Sends count start codec = SendEntry (send_refusal count codec) (drop (432 - count) (slot start codec))
