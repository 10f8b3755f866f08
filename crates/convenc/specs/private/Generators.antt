-- Beside Generators.antt: what only our own contracts and proofs need.
-- Assumes nothing.
use Rattle.std.specs.Prelude.{◌≡◌, List, ℕ}
use Rattle.base.specs.Places.{written}
use Rattle.trellis.specs.Nearest.{encode}
use Rattle.trellis.specs.private.Nearest.{after}
use Rattle.convenc.specs.Generators.{outputs, speech}

-- what one new speech encoder leaves in two targets when it is lent to two calls in a row
pub record InTurn (first second x x' y y' : List ℕ) : Type 0 where
  pub before : x' ≡ written (encode (outputs speech) 0 first) x
  -- the second call goes on from the last bits of the first
  pub beyond : y' ≡ written (encode (outputs speech) (after 0 first) second) y
