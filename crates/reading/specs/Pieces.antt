-- A recording that comes in pieces of any sizes: turns that follow each other, each on what one read brought.
-- Assumes nothing.
use Rattle.std.specs.Prelude.{false, ◌≡◌, List, [], ◌++◌, ℕ, take}
use Rattle.reading.specs.declared.Next.TheVariants.{Goes}
use Rattle.reading.specs.declared.Got.{Got}
use Rattle.reading.specs.declared.Turn.{Turn}
use Rattle.reading.specs.Turns.{first, wrote}
use Rattle.reading.specs.Reading.{brought, Takes}

-- `Ran input text turn buf`: the input has come, the text was to be written, and the last turn left the buffer so.
-- A read leaves at the buffer's front what was kept there. Nothing follows a turn whose lines could not be written
pub data Ran : List ℕ → List ℕ → Turn → List ℕ → Type 0 where
  begins : (buf : List ℕ) → Ran [] [] first buf
  turns :
      {input text was from buf out : List ℕ} {held r : Turn} (got : Got) → Ran input text held was → held.next ≡ Goes
      → take held.kept from ≡ take held.kept was → Takes held got from r buf out
      → Ran (input ++ brought held got from) (text ++ take r.written out) r buf
  loses : {input text buf : List ℕ} {turn : Turn} → Ran input text turn buf → Ran input text (wrote false turn) buf
