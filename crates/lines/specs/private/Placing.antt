-- A text written into a target from a place on.
-- Assumes nothing.
use Rattle.std.specs.Prelude.{◌≡◌, List, ◌++◌, ℕ, ◌+◌, length, take, drop}

-- the text from the place on, over what stood there; the rest stays
unfoldable pub placed : ℕ → List ℕ → List ℕ → List ℕ
placed at text old = take at old ++ (text ++ drop (at + length text) old)

-- the text was written from the place on, and next is the place after it
pub record Put (text : List ℕ) (at : ℕ) (old new : List ℕ) (next : ℕ) : Type 0 where
  pub is : new ≡ placed at text old
  pub ends : next ≡ at + length text
