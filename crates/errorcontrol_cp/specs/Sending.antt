-- Sending a control block: data, 16 check bits and 4 zeros; the control mother code; mode 2_3; the block interleaver; the scrambler.
-- Assumes nothing.
use Rattle.std.specs.Prelude.{List, [], ◌∷◌, ◌++◌, not, ℕ, length, take, replicate}
use Rattle.base.specs.Refusal.{Owed, BIT, KIND, accepted, when, sized}
use Rattle.base.specs.Bits.{bits_only}
use Rattle.trellis.specs.Nearest.{encode}
use Rattle.crc16.specs.Crc.{check}
use Rattle.convenc.specs.Generators.{control, outputs}
use Rattle.puncturing.specs.Puncturing.{punctured}
use Rattle.interleaver.specs.Interleaving.{interleaved}
use Rattle.scrambler.specs.Scrambling.{scrambled}
use Rattle.stages.specs.Entries.{SendEntry}
use Rattle.errorcontrol_cp.specs.Kinds.{is_kind, data_bits, air_symbols, interleaver_step}

-- the word of a data block: the data, its check, four zeros
abbrev pub word_of : List ℕ → List ℕ
word_of block = block ++ check block ++ (0 ∷ 0 ∷ 0 ∷ 0 ∷ [])

-- the coded symbols of a word: those that mode 0, 2_3, keeps of its mother code from the zero state
unfoldable pub coded : ℕ → List ℕ → List ℕ
coded kind w = punctured 0 (air_symbols kind) (encode (outputs control) 0 w)

-- the air symbols that a word is sent as
unfoldable pub sent : ℕ → ℕ → List ℕ → List ℕ
sent kind start w = scrambled start (interleaved (air_symbols kind) (interleaver_step kind) (coded kind w) (replicate (air_symbols kind) 0))

abbrev pub send_refusal : ℕ → List ℕ → ℕ → Owed
send_refusal kind block air =
    when (not (is_kind kind)) KIND
    (sized (length block) (data_bits kind) air (air_symbols kind) (when (not (bits_only (data_bits kind) block)) BIT accepted))

-- what `encode_cp` answers and leaves in its target
abbrev pub Sends : ℕ → ℕ → List ℕ → List ℕ → Owed → List ℕ → Type 0
Sends kind start block = SendEntry (send_refusal kind block) (sent kind start (word_of (take (data_bits kind) block)))
