-- The walk back of a decoder, from state 0 over n steps of a code, by the unerased symbols that a branch disagrees with.
-- Assumes nothing.
use Rattle.std.specs.Prelude.{◌≡◌, List, reverse, ℕ, length}
use Rattle.std.proofs.Math.Option.{some}
use Rattle.base.specs.Bits.{disagrees}
use Rattle.trellis.specs.Walk.{steps, bits_back, ends_in, score, best_way}
use Rattle.convenc.specs.Generators.{outputs}
use Rattle.viterbi.specs.Decoding.{disagreements, decoded}

abbrev pub steps_of : List (List ℕ) → ℕ → List ℕ → List (ℕ → ℕ)
steps_of code n src = steps disagrees (outputs code) (length code) src n

-- it ends in state 0; it gives the decoded word; the score of state 0, where it begins, is the number of that word's disagreements
pub record WalksBack (code : List (List ℕ)) (n : ℕ) (src : List ℕ) : Type 0 where
  pub ends : ends_in best_way (steps_of code n src) 0 ≡ 0
  pub gives : reverse (bits_back best_way (steps_of code n src) 0) ≡ decoded code n src
  pub scores : score (steps_of code n src) 0 ≡ some (disagreements code n src (decoded code n src))
