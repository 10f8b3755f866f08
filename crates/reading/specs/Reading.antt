-- One turn of a program that reads a recording, by the definition of the runner.
-- Assumes nothing.
use Rattle.std.specs.Prelude.{true, false, ◌≡◌, ◌⊎◌, List, [], ◌++◌, ℕ, ◌≤◌, ◌<◌, eqb, length, take, drop}
use Rattle.records.specs.Recording.{pick}
use Rattle.streaming.specs.Runner.{State, holding, start, feed, lines_of}
use Rattle.streaming.specs.Limits.{LARGEST, LONGEST}
use Rattle.reading.specs.declared.Next.{Next}
use Rattle.reading.specs.declared.Next.TheVariants.{Goes, Whole, Cut, Unknown, Unread, Unwritten, Full}
use Rattle.reading.specs.declared.Got.{Got}
use Rattle.reading.specs.declared.Turn.{Turn}
use Rattle.reading.specs.Turns.{bytes_of, has_failed}

-- ---- what a turn says of all the input so far, what it keeps of it, all the text so far, and the count
-- the definition has taken in the input: it holds the rest, and has written the text and counted so many records
abbrev pub Stands : List ℕ → List ℕ → List ℕ → ℕ → Type 0
Stands input rest text count = feed start input ≡ holding rest text count

-- how an input ends: a kind that is not known has stopped the reading, or nothing is held, or what is held is a cut record
abbrev pub ending_of : State → Next
ending_of state = pick state.stopped Unknown (pick (eqb (length state.held) 0) Whole Cut)

-- the input ends so, and the text is its lines
pub record Ends (next : Next) (input text : List ℕ) : Type 0 where
  pub how : ending_of (feed start input) ≡ next
  pub lines : lines_of input ≡ text

-- Unknown: whatever may come later. Full: the text is what the definition writes before some bytes that are left, and no number is left for them
abbrev pub Says : Next → List ℕ → List ℕ → List ℕ → ℕ → Type 0
Says Goes input rest text count = Stands input rest text count
Says Whole input rest text count = Ends Whole input text
Says Cut input rest text count = Ends Cut input text
Says Unknown input rest text count = (later : List ℕ) → Ends Unknown (input ++ later) text
Says Unread input rest text count = Stands input rest text count
Says Unwritten input rest text count = Unit {0}
Says Full input rest text count = (LARGEST ≤ count) × (left : List ℕ) × (feed start input ≡ feed (holding [] text count) left)

-- ---- what a turn does
-- the bytes that a read brought to the buffer, and none if it failed
abbrev pub brought : Turn → Got → List ℕ → List ℕ
brought held got buf = pick (has_failed got) [] (take (bytes_of got) (drop held.kept buf))

-- another turn can follow: what is kept is less than a record, a number is left,
-- and a record was counted or more is kept than before, so that turns come to an end
pub record Onward (held r : Turn) : Type 0 where
  pub less : r.kept < LONGEST
  pub number : r.count < LARGEST
  pub moves : (held.count < r.count) ⊎ ((r.count ≡ held.count) × (held.kept < r.kept))

pub record Takes (held : Turn) (got : Got) (from : List ℕ) (r : Turn) (buf out : List ℕ) : Type 0 where
  -- whatever input and text came before
  pub says :
      (input text : List ℕ) → Stands input (take held.kept from) text held.count
      → Says r.next (input ++ brought held got from) (take r.kept buf) (text ++ take r.written out) r.count
  -- a read that failed, one that brought nothing, one that brought something
  pub failed : has_failed got ≡ true → r.next ≡ Unread
  pub ended : has_failed got ≡ false → bytes_of got ≡ 0 → (r.next ≡ Whole) ⊎ (r.next ≡ Cut)
  pub came : has_failed got ≡ false → 0 < bytes_of got → (r.next ≡ Goes) ⊎ ((r.next ≡ Unknown) ⊎ (r.next ≡ Full))
  pub fits : r.written ≤ length out
  pub onward : r.next ≡ Goes → Onward held r
