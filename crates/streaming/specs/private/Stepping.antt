-- What a step takes from the bytes that a buffer holds, by the definition of the runner: whole records, as long as there is room for another line.
-- Assumes nothing.
use Rattle.std.specs.Prelude.{Option, MatchOption, Bool, true, false, ◌≡◌, ◌⊎◌, List, [], ◌++◌, ℕ, ◌+◌, ◌*◌, ◌≤◌, ◌<◌, length, take}
use Rattle.records.specs.Recording.{item_at}
use Rattle.records.specs.declared.Item.{Item}
use Rattle.records.specs.declared.Item.TheVariants.{Whole, Unknown, Cut, End}
use Rattle.lines.specs.Lines.{LINE}
use Rattle.streaming.specs.Runner.{State, holding, feed}
use Rattle.streaming.specs.Limits.{LARGEST}
use Rattle.streaming.specs.declared.inner.Stepped.{Stepped}

-- what stands there waits for more: it is nothing, or the beginning of a record
abbrev pub Waits : Item → Type 0
Waits (Whole kind place) = ⊥
Waits (Unknown kind) = ⊥
Waits (Cut kind) = Unit {0}
Waits End = Unit {0}

-- where the definition is when nothing is held, and the first bytes of the target were written after the text
abbrev pub came_to : List ℕ → ℕ → List ℕ → ℕ → Bool → State
came_to text written out count stopped = record { held = []; text = text ++ take written out; count = count; stopped = stopped }

-- another item can be taken: the reading has not stopped, and there is room for a line and a number for it
pub record Able (p : Stepped) (room : ℕ) : Type 0 where
  pub reads : p.stopped ≡ false
  pub line : p.written + LINE ≤ room
  pub number : p.count < LARGEST

-- how far a step is that began after so many records
pub record Reached (bytes : List ℕ) (count : ℕ) (p : Stepped) (out : List ℕ) : Type 0 where
  -- after any text, the definition comes to the same from the bytes that were taken
  pub fed : (text : List ℕ) → feed (holding [] text count) (take p.taken bytes) ≡ came_to text p.written out p.count p.stopped
  pub taken_in : p.taken ≤ length bytes
  pub written_in : p.written ≤ length out
  -- at most three bytes were written for each that was taken, and a line more for a kind that is not known
  pub thrice : p.stopped ≡ false → p.written ≤ 3 * p.taken
  pub thrice_and_line : p.written ≤ 3 * p.taken + LINE
  -- a record was counted, or nothing was taken
  pub moves : p.stopped ≡ false → (count < p.count) ⊎ ((p.count ≡ count) × (p.taken ≡ 0))
  pub numbered : p.stopped ≡ true → p.count < LARGEST

-- it takes no more: what it leaves waits for more, if another item could be taken
abbrev pub Settled : List ℕ → Stepped → List ℕ → Type 0
Settled bytes p out = Able p (length out) → Waits (item_at bytes p.taken)

-- what comes of a step
pub record Steps (bytes : List ℕ) (count : ℕ) (r : Stepped) (new : List ℕ) : Type 0 where
  pub reached : Reached bytes count r new
  pub settled : Settled bytes r new

-- more was taken
pub record Further (bytes : List ℕ) (count : ℕ) (p r : Stepped) (new : List ℕ) : Type 0 where
  pub reached : Reached bytes count r new
  pub forth : p.taken < r.taken

-- what comes of one item: however far it was, it is further, or it is settled where it was
abbrev pub NextItem : List ℕ → Stepped → List ℕ → Option Stepped → List ℕ → Type 0
NextItem bytes p old next new = (count : ℕ) → Reached bytes count p old → MatchOption next (Steps bytes count p new) (λ r. Further bytes count p r new)
