-- Receiving a control block: the stages of sending undone in reverse, with every place that puncturing dropped an erasure.
-- Assumes nothing.
use Rattle.std.specs.Prelude.{Result, List, Bool, not, ℕ, ◌+◌, ◌*◌, ltb, eqb, length, take, replicate}
use Rattle.base.specs.declared.Counts.{Counts}
use Rattle.base.specs.declared.Received.{Received}
use Rattle.base.specs.declared.Refusal.{Refusal}
use Rattle.base.specs.Refusal.{Owed, ROOM, KIND, accepted, when, sized, reception}
use Rattle.base.specs.Bits.{ERASED}
use Rattle.crc16.specs.Crc.{register, OK}
use Rattle.convenc.specs.Generators.{control}
use Rattle.puncturing.specs.Puncturing.{depunctured}
use Rattle.interleaver.specs.Interleaving.{deinterleaved}
use Rattle.scrambler.specs.Scrambling.{descrambled}
use Rattle.viterbi.specs.Decoding.{decoded, disagreements}
use Rattle.stages.specs.Entries.{ReceiveEntry}
use Rattle.errorcontrol_cp.specs.Kinds.{is_kind, data_bits, word_bits, air_symbols, interleaver_step}

-- the coded symbols in the order of sending: the air symbols that are used, descrambled, each fetched from its place
unfoldable pub coded_from : ℕ → ℕ → List ℕ → List ℕ
coded_from kind start air = deinterleaved (air_symbols kind) (interleaver_step kind) (descrambled start (take (air_symbols kind) air))

-- the mother symbols that the decoder is given, four for each bit of the word
unfoldable pub mother : ℕ → ℕ → List ℕ → List ℕ
mother kind start air = depunctured 0 (air_symbols kind) (coded_from kind start air) (replicate (4 * word_bits kind) ERASED)

-- the decoded word: data, check and tail
unfoldable pub word_from : ℕ → ℕ → List ℕ → List ℕ
word_from kind start air = decoded control (word_bits kind) (mother kind start air)

-- what is counted: the unerased symbols that the decoded word disagrees with
unfoldable pub counts_of : ℕ → ℕ → List ℕ → Counts
counts_of kind start air = record { disagreements = disagreements control (word_bits kind) (mother kind start air) (word_from kind start air) }

-- whether the register over a word's data and check, the tail left out, ends as it does after data and its own check
unfoldable pub good : ℕ → List ℕ → Bool
good kind w = eqb (register 0xffff (take (data_bits kind + 16) w)) OK

abbrev pub receive_refusal : ℕ → ℕ → ℕ → ℕ → Owed
receive_refusal kind air word trellis =
    when (not (is_kind kind)) KIND
    (sized air (air_symbols kind) word (word_bits kind) (when (ltb trellis (word_bits kind)) ROOM accepted))

-- what `decode_cp` answers, where its target and its trellis have so many entries
abbrev pub answer_of : ℕ → ℕ → List ℕ → ℕ → ℕ → Result Received Refusal
answer_of kind start air word trellis = reception (receive_refusal kind (length air) word trellis) (good kind (word_from kind start air)) (counts_of kind start air)

-- and what it leaves in them
abbrev pub Receives : ℕ → ℕ → List ℕ → List ℕ → List ℕ → Result Received Refusal → List ℕ → List ℕ → Type 0
Receives kind start air = ReceiveEntry (receive_refusal kind (length air)) (answer_of kind start air) (word_from kind start air) (word_bits kind)
