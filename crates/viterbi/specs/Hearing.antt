-- The decoders as receivers: a word is sent as its encoding from the zero state, symbol by symbol.
-- Assumes nothing.
use Rattle.std.specs.Prelude.{Ok, List, ℕ, ◌*◌, length, get_or}
use Rattle.trellis.specs.Nearest.{encode}
use Rattle.convenc.specs.Generators.{outputs}
use Rattle.air.specs.Channel.{Channel, hard}
use Rattle.viterbi.specs.Decoding.{Decodes}

abbrev pub mother_code : List (List ℕ) → ℕ → Channel (List ℕ) ℕ
mother_code code n = hard n (length code * n) (λ j. j) (λ w x. get_or (encode (outputs code) 0 w) x 0) (λ src x. get_or src x 0)

-- a call that answered a value, with any trellis
pub record AnsweredWord (code : List (List ℕ)) (n : ℕ) (src : List ℕ) (count : ℕ) (target target' : List ℕ) : Type 0 where
  pub trellis : List ℕ
  pub trellis' : List ℕ
  pub call : Decodes code n src target target' trellis trellis' (Ok count)
