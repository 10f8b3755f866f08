-- What a read and a write of the program leave. What the reader still has is `given` before and `left` after, what the writer holds `had` and
-- `has`, where they are known.
-- Assumes nothing.
use Rattle.std.specs.Prelude.{true, false, ◌≡◌, ℕ, ◌+◌, ◌≤◌, Bool, List, length, take}
use Rattle.std.specs.Io.KnownBytes.{Consumes, Appends, IsAtEnd}
use Rattle.std.specs.declared.option.Option.{Option}
use Rattle.reading.specs.declared.Got.{Got}
use Rattle.reading.specs.declared.Turn.{Turn}
use Rattle.reading.specs.Turns.{wrote, bytes_of, has_failed}
use Rattle.reading.specs.Reading.{brought, Takes}

-- what a read leaves: the bytes that were kept, and behind them as many as were got, which the reader gave; it has no more where none were got
pub record Reads (given left : Option (List ℕ)) (held : Turn) (got : Got) (from buf : List ℕ) : Type 0 where
  pub inside : held.kept + bytes_of got ≤ length buf
  pub kept : take held.kept buf ≡ take held.kept from
  pub came : Consumes given left (brought held got buf)
  pub end : has_failed got ≡ false → bytes_of got ≡ 0 → IsAtEnd left

-- the writer took the text where that was done, and otherwise a front of it
pub record Lands (had has : Option (List ℕ)) (text : List ℕ) (done : Bool) : Type 0 where
  pub all : done ≡ true → Appends had has text
  pub part : (n : ℕ) × Appends had has (take n text)

-- what a turn leaves: the library's turn, and whether its lines were written
pub record Writes (had has : Option (List ℕ)) (held : Turn) (got : Got) (from : List ℕ) (r : Turn) (buf out : List ℕ) : Type 0 where
  pub turn : Turn
  pub takes : Takes held got from turn buf out
  pub done : Bool
  pub is : r ≡ wrote done turn
  pub lands : Lands had has (take turn.written out) done
