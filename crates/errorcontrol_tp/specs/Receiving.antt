-- Receiving a speech slot, or the last 216 symbols of one: the stages of sending undone in reverse, with every place that was not received
-- or that puncturing dropped an erasure.
-- Assumes nothing.
use mathlib.Core.List.{List, ◌++◌, map, foldr, zip_with}
use Rattle.std.specs.Prelude.{Result, Bool, true, ℕ, ◌-◌, ltb, eqb, length, take, drop, replicate}
use Rattle.base.specs.declared.Counts.{Counts}
use Rattle.base.specs.declared.Received.{Received}
use Rattle.base.specs.declared.Refusal.{Refusal}
use Rattle.base.specs.Refusal.{Owed, ROOM, accepted, when, sized, reception}
use Rattle.base.specs.Bits.{both, ERASED}
use Rattle.convenc.specs.Generators.{speech}
use Rattle.puncturing.specs.Puncturing.{depunctured}
use Rattle.interleaver.specs.Interleaving.{matrix_deinterleaved}
use Rattle.scrambler.specs.Scrambling.{descrambled}
use Rattle.tch_reorder.specs.Order.{codec_of}
use Rattle.speech_crc.specs.Check.{speech_check}
use Rattle.viterbi.specs.Decoding.{decoded, disagreements}
use Rattle.stages.specs.Entries.{ReceiveEntry}

-- the slot that so many symbols are the last of: erasures are supplied before them
abbrev pub slot_of : ℕ → List ℕ → List ℕ
slot_of count air = replicate (432 - count) ERASED ++ take count air

-- the block that a slot carries: descrambled, out of the matrix
unfoldable pub block_of : ℕ → List ℕ → List ℕ
block_of start air = matrix_deinterleaved 24 18 (descrambled start air)

-- the mother symbols that the decoder is given, three for each bit of the word: class 2 is depunctured from its own first place
unfoldable pub mother_of : List ℕ → List ℕ
mother_of block =
    depunctured 4 168 (take 168 (drop 102 block)) (replicate 336 ERASED) ++ depunctured 5 162 (take 162 (drop 270 block)) (replicate 216 ERASED)

-- the decoded word: class 1, class 2, check and tail
unfoldable pub word_from : ℕ → ℕ → List ℕ → List ℕ
word_from count start air = decoded speech 184 (mother_of (block_of start (slot_of count air)))

-- what is counted: the unerased coded symbols that the decoded word disagrees with
unfoldable pub counts_of : ℕ → ℕ → List ℕ → Counts
counts_of count start air = record { disagreements = disagreements speech 184 (mother_of (block_of start (slot_of count air))) (word_from count start air) }

-- whether the eight check bits of a word are, entry by entry, the check of its 60 bits of class 2; a decoded word has 184 bits, so there are eight of each
unfoldable pub good : List ℕ → Bool
good w = foldr both true (zip_with eqb (take 8 (drop 172 w)) (speech_check (take 60 (drop 112 w))))

-- an erased uncoded bit reads 0
abbrev pub read_bit : ℕ → ℕ
read_bit symbol = when (eqb symbol 1) 1 0

-- the 274 codec bits that a word and the uncoded places of the slot hold
unfoldable pub codec_bits : ℕ → ℕ → List ℕ → List ℕ → List ℕ
codec_bits count start air w = codec_of (map read_bit (take 102 (block_of start (slot_of count air))) ++ take 172 w) (replicate 274 0)

abbrev pub receive_refusal : ℕ → ℕ → ℕ → ℕ → Owed
receive_refusal count air codec trellis = sized air count codec 274 (when (ltb trellis 184) ROOM accepted)

-- what `decode_tp` answers for 432 symbols and `decode_tp_half` for 216, where target and trellis have so many entries
abbrev pub answer_of : ℕ → ℕ → List ℕ → ℕ → ℕ → Result Received Refusal
answer_of count start air codec trellis = reception (receive_refusal count (length air) codec trellis) (good (word_from count start air)) (counts_of count start air)

-- and what they leave in them
abbrev pub Receives : ℕ → ℕ → List ℕ → List ℕ → List ℕ → Result Received Refusal → List ℕ → List ℕ → Type 0
Receives count start air = ReceiveEntry (receive_refusal count (length air)) (answer_of count start air) (codec_bits count start air (word_from count start air)) 184
