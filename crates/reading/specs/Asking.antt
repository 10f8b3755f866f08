-- What a turn asks of its caller.
-- Assumes nothing.
use Rattle.std.specs.Prelude.{List, ℕ, ◌+◌, ◌*◌, ◌≤◌, ◌<◌, length}
use Rattle.lines.specs.Lines.{LINE}
use Rattle.streaming.specs.Limits.{LARGEST, LONGEST}
use Rattle.reading.specs.declared.Got.{Got}
use Rattle.reading.specs.declared.Turn.{Turn}
use Rattle.reading.specs.Turns.{bytes_of}

-- the buffer has room for the longest record, and the target for the lines of all that the buffer can hold, and the last lines
pub record Room (buf out : List ℕ) : Type 0 where
  pub input : LONGEST ≤ length buf
  pub output : 3 * length buf + 3 * LINE ≤ length out

-- the bytes stand in the buffer behind what was kept, and a number is left for a line
pub record Fits (held : Turn) (got : Got) (buf out : List ℕ) : Type 0 where
  pub inside : held.kept + bytes_of got ≤ length buf
  pub number : held.count < LARGEST
  pub room : Room buf out
