-- Sending and receiving by a kind's numbers: what only our own contracts need.
-- Assumes nothing.
use Rattle.std.specs.Prelude.{◌≡◌, List, ℕ, ◌+◌, ◌*◌, eqb, take, replicate}
use Rattle.base.specs.declared.Received.{Received}
use Rattle.base.specs.Refusal.{checked}
use Rattle.base.specs.Bits.{ERASED}
use Rattle.base.specs.Places.{written}
use Rattle.trellis.specs.Nearest.{encode}
use Rattle.crc16.specs.Crc.{register, OK}
use Rattle.convenc.specs.Generators.{control, outputs}
use Rattle.puncturing.specs.Puncturing.{punctured, depunctured}
use Rattle.interleaver.specs.Interleaving.{interleaved, deinterleaved}
use Rattle.scrambler.specs.Scrambling.{scrambled, descrambled}
use Rattle.viterbi.specs.Decoding.{decoded, disagreements, cleared}

-- the k air symbols of a word
abbrev pub sent_by : ℕ → ℕ → ℕ → List ℕ → List ℕ
sent_by k a start w = scrambled start (interleaved k a (punctured 0 k (encode (outputs control) 0 w)) (replicate k 0))

-- the mother symbols of n steps from k air symbols
abbrev pub mother_by : ℕ → ℕ → ℕ → ℕ → List ℕ → List ℕ
mother_by n k a start air = depunctured 0 k (deinterleaved k a (descrambled start (take k air))) (replicate (4 * n) ERASED)

-- n steps of mother symbols are decoded: the word over the front of the target, what its d data bits and their check say, and a trellis cleared
pub record Settles (d n : ℕ) (symbols before trellis : List ℕ) (answer : Received) (after trellis' : List ℕ) : Type 0 where
  pub answers : answer ≡ checked (eqb (register 0xffff (take (d + 16) (decoded control n symbols))) OK) (record { disagreements = disagreements control n symbols (decoded control n symbols) })
  pub writes : after ≡ written (decoded control n symbols) before
  pub clears : trellis' ≡ cleared n trellis
