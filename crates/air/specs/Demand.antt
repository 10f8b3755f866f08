-- Demand 3, for any channel and any entry that receives from it.
-- Assumes nothing.
use Rattle.std.specs.Prelude.{◌≡◌, Bool, List, ℕ, Result, Ok}
use Rattle.base.specs.declared.Counts.{Counts}
use Rattle.base.specs.declared.Received.{Received}
use Rattle.base.specs.declared.Refusal.{Refusal}
use Rattle.base.specs.Refusal.{checked}
use Rattle.base.specs.Places.{written}
use Rattle.trellis.specs.Nearest.{Winner}
use Rattle.air.specs.Channel.{Channel, distance_of, Turned}

-- a target that holds the word itself
abbrev pub itself : {Air : Type 0} → Air → List ℕ → List ℕ
itself air w = w

-- a call of a receive chain that answered Good or Bad: `Receives` says what the chain answers and leaves, and the trellis is any
pub record Unrefused {Air : Type 0} (Receives : Air → List ℕ → List ℕ → Result Received Refusal → List ℕ → List ℕ → Type 0)
    (air : Air) (count : ℕ) (target target' : List ℕ) : Type 0 where
  pub good : Bool
  pub counts : Counts
  pub counted : count ≡ counts.disagreements
  pub trellis : List ℕ
  pub trellis' : List ℕ
  pub call : Receives air target trellis (Ok (checked good counts)) target' trellis'

-- A call received `air`, reported `count`, and left `target'` where `target` was. `Call` says what a call does that is not refused,
-- and `holds` what the target is to hold for a word.
pub record HeardRight {Air A : Type 0} (c : Channel Air A) (Call : Air → ℕ → List ℕ → List ℕ → Type 0) (holds : Air → List ℕ → List ℕ)
    (air : Air) (count : ℕ) (target target' : List ℕ) : Type 0 where
  -- the decoded word, which is written
  pub word : List ℕ
  pub writes : target' ≡ written (holds air word) target
  -- of all words of its length that end in four zeros none is nearer; between equals the one with 0 at the first difference from the last bit wins
  pub wins : Winner (distance_of c air) c.bits word
  -- the count is its distance
  pub counts : count ≡ distance_of c air word
  -- turn any symbols that carry it into what it sends there: another call decodes the same word
  pub stays : (other : Air) (reported : ℕ) (before after : List ℕ) → Turned c word air other → Call other reported before after
      → after ≡ written (holds other word) before
