-- What the entries of a chain owe, from their refusal: the answer, and what they leave.
-- Assumes nothing.
use Rattle.std.specs.Prelude.{◌≡◌, List, ℕ, length, Result}
use Rattle.base.specs.declared.Received.{Received}
use Rattle.base.specs.declared.Refusal.{Refusal}
use Rattle.base.specs.Refusal.{Owed, unless}
use Rattle.base.specs.Places.{written}
use Rattle.viterbi.specs.Decoding.{cleared}

-- an entry that sends, its refusal by how many entries its target has: its symbols over the front of the target
pub record SendEntry (refusal : ℕ → Owed) (symbols before : List ℕ) (answer : Owed) (after : List ℕ) : Type 0 where
  pub answered : answer ≡ refusal (length before)
  pub target : after ≡ unless (refusal (length before)) (written symbols before) before

-- an entry that receives, its refusal and its answer by how many target and trellis have: its bits over the front of the target, Good or Bad,
-- and as many zeros in the trellis as it took steps
pub record ReceiveEntry (refusal : ℕ → ℕ → Owed) (owed : ℕ → ℕ → Result Received Refusal) (bits : List ℕ) (steps : ℕ) (before trellis : List ℕ) (answer : Result Received Refusal) (after trellis' : List ℕ) : Type 0 where
  pub answered : answer ≡ owed (length before) (length trellis)
  pub target : after ≡ unless (refusal (length before) (length trellis)) (written bits before) before
  pub clears : trellis' ≡ unless (refusal (length before) (length trellis)) (cleared steps trellis) trellis
