-- A step over what a buffer holds, after which what was not taken stands at the buffer's front.
-- Assumes nothing.
use Rattle.std.specs.Prelude.{true, false, ◌≡◌, ◌⊎◌, List, [], ℕ, ◌+◌, ◌-◌, ◌*◌, ◌≤◌, ◌<◌, length, take}
use Rattle.records.specs.Recording.{item_at}
use Rattle.lines.specs.Lines.{LINE}
use Rattle.streaming.specs.Runner.{holding, feed}
use Rattle.streaming.specs.Limits.{LARGEST, LONGEST}
use Rattle.streaming.specs.private.Stepping.{Waits, came_to}
use Rattle.streaming.specs.declared.inner.Stepped.{Stepped}

-- the target has room for the lines of so many bytes, and a number was left for a line
pub record Roomy (bytes old : List ℕ) (r : Stepped) : Type 0 where
  pub lines : 3 * length bytes + LINE ≤ length old
  pub number : r.count < LARGEST

-- the buffer held the bytes, and the target was old
pub record Advances (bytes : List ℕ) (count : ℕ) (old : List ℕ) (r : Stepped) (buf new : List ℕ) : Type 0 where
  -- after any text, what is kept is all of the bytes that the definition has yet to take
  pub fed : (text : List ℕ) → feed (holding [] text count) bytes ≡ feed (came_to text r.written new r.count r.stopped) (take (length bytes - r.taken) buf)
  -- it counts a record, or takes nothing
  pub moves : r.stopped ≡ false → (count < r.count) ⊎ ((r.count ≡ count) × (r.taken ≡ 0))
  pub numbered : r.stopped ≡ true → r.count < LARGEST
  -- what is kept waits for more, and is less than a record
  pub waits : r.stopped ≡ false → Roomy bytes old r → Waits (item_at (take (length bytes - r.taken) buf) 0)
  pub less : r.stopped ≡ false → Roomy bytes old r → length bytes < r.taken + LONGEST
  pub taken_in : r.taken ≤ length bytes
  pub written_in : r.written ≤ length old
  pub thrice_and_line : r.written ≤ 3 * length bytes + LINE
