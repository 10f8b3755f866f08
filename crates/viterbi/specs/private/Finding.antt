-- What a decoder owes where nothing is refused, so that there is nothing to look at but the count.
-- Assumes nothing.
use Rattle.std.specs.Prelude.{◌≡◌, List, ℕ}
use Rattle.base.specs.Places.{written}
use Rattle.viterbi.specs.Decoding.{disagreements, decoded, cleared}

pub record Finds (code : List (List ℕ)) (n : ℕ) (src target target' trellis trellis' : List ℕ) (count : ℕ) : Type 0 where
  pub counts : count ≡ disagreements code n src (decoded code n src)
  pub writes : target' ≡ written (decoded code n src) target
  pub clears : trellis' ≡ cleared n trellis
