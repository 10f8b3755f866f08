-- What is made of a received block once it is out of the matrix.
-- Assumes nothing.
use Rattle.std.specs.Prelude.{◌≡◌, List, ℕ}
use Rattle.convenc.specs.Generators.{speech}
use Rattle.viterbi.specs.Decoding.{decoded, disagreements, cleared}
use Rattle.errorcontrol_tp.specs.declared.Heard.{Heard}
use Rattle.errorcontrol_tp.specs.Receiving.{mother_of}

-- the word that is decoded of a block
abbrev pub word_in : List ℕ → List ℕ
word_in block = decoded speech 184 (mother_of block)

-- what is heard of a block
pub record HeardOf (block trellis trellis' : List ℕ) (heard : Heard) : Type 0 where
  pub word_is : heard.word ≡ word_in block
  pub counts : heard.disagreements ≡ disagreements speech 184 (mother_of block) (word_in block)
  pub clears : trellis' ≡ cleared 184 trellis
