-- The runner (document 01, "The runner"): bytes come one at a time and are gathered until they make a record, which writes its line.
-- Assumes nothing.
use Rattle.std.specs.Prelude.{Bool, true, false, List, [], ◌∷◌, ◌++◌, ℕ, ◌+◌}
use Rattle.records.specs.Recording.{pick, item_at, body_at}
use Rattle.records.specs.declared.Item.{Item}
use Rattle.records.specs.declared.Item.TheVariants.{Whole, Unknown, Cut, End}
use Rattle.answers.specs.Answering.{answer_of}
use Rattle.lines.specs.Text.{ascii}
use Rattle.lines.specs.Lines.{answer_text, line, end_line}

-- what has come of a record that is not whole, what was written, how many whole records were read, and whether the reading has stopped
pub record State : Type 0 where
  pub held : List ℕ
  pub text : List ℕ
  pub count : ℕ
  pub stopped : Bool

-- with `held` gathered, and text written after so many records
abbrev pub holding : List ℕ → List ℕ → ℕ → State
holding held text count = record { held = held; text = text; count = count; stopped = false }

-- before the first byte
abbrev pub start : State
start = holding [] [] 0

-- what is held is looked at: a whole record writes its line and counts, an unknown kind writes its line and stops the reading, and anything else waits for more
abbrev pub judge : Item → List ℕ → List ℕ → ℕ → State
judge (Whole kind place) held text count = holding [] (text ++ line (count + 1) kind (answer_text (answer_of kind (body_at held kind place)))) (count + 1)
judge (Unknown kind) held text count = record { held = []; text = text ++ line (count + 1) kind (ascii "unknown"); count = count; stopped = true }
judge (Cut kind) held text count = holding held text count
judge End held text count = holding held text count

-- one byte comes: it joins what is held, unless the reading has stopped
unfoldable pub one : State → ℕ → State
one state byte =
    pick state.stopped state
    (judge (item_at (state.held ++ (byte ∷ [])) 0) (state.held ++ (byte ∷ [])) state.text state.count)

-- bytes come, one after the other
unfoldable pub feed : State → List ℕ → State
feed state [] = state
feed state (byte ∷ bytes) = feed (one state byte) bytes

-- the input ends: what is held is a record that is cut short, and the last line follows
unfoldable pub closing : List ℕ → ℕ → List ℕ
closing [] count = end_line count
closing (kind ∷ body) count = line (count + 1) kind (ascii "short") ++ end_line count

-- all that the runner writes of an input
abbrev pub lines_of : List ℕ → List ℕ
lines_of input = (feed start input).text ++ closing (feed start input).held (feed start input).count
