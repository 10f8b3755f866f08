-- The program's loop: a read, a turn of the library, a write. What the reader still has and what the writer holds are lists of bytes where the
-- reader and the writer say so, and then: `given` when the loop began, `left` now, `had` and `has` likewise.
-- Assumes nothing.
use Rattle.std.specs.Prelude.{◌≡◌, ◌⊎◌, ℕ, List, ◌++◌, take}
use Rattle.std.specs.Io.KnownBytes.{Consumes, Appends, IsAtEnd}
use Rattle.std.specs.declared.option.Option.{Option}
use Rattle.streaming.specs.Runner.{start, feed, lines_of}
use Rattle.reading.specs.declared.Next.TheVariants.{Goes, Whole, Cut, Unknown, Unread, Unwritten}
use Rattle.reading.specs.declared.Turn.{Turn}
use Rattle.reading.specs.Pieces.{Ran}

-- what the loop has come to: turns that followed each other, over some input and to some text. The reader gave the input, and at its end it has
-- no more; the writer took the text, and where it could not, a front of it
pub record Story (given left had has : Option (List ℕ)) (turn : Turn) (buf : List ℕ) : Type 0 where
  pub input : List ℕ
  pub text : List ℕ
  pub ran : Ran input text turn buf
  pub came : Consumes given left input
  pub went : (turn.next ≡ Unwritten → ⊥) → Appends had has text
  pub part : (n : ℕ) × Appends had has (take n text)
  pub end : (turn.next ≡ Whole) ⊎ (turn.next ≡ Cut) → IsAtEnd left

-- the loop has ended because its last turn said so
pub record Ended (given left had has : Option (List ℕ)) (last : Turn) (buf : List ℕ) : Type 0 where
  pub over : last.next ≡ Goes → ⊥
  pub story : Story given left had has last buf

-- what the loop did, by the definition of the runner. The reader gave the input, and the writer took the output: a front of the input's lines,
-- whatever happened, and all of them where the input ended, or where a kind was not known, whatever would have come later;
-- where the input could not be read on, the lines of the records that had come whole
pub record Tells (given left had has : Option (List ℕ)) (last : Turn) : Type 0 where
  pub input : List ℕ
  pub output : List ℕ
  pub came : Consumes given left input
  pub went : Appends had has output
  pub rest : List ℕ
  pub front : lines_of input ≡ output ++ rest
  pub ended : (last.next ≡ Whole) ⊎ (last.next ≡ Cut) → IsAtEnd left × (output ≡ lines_of input)
  pub unknown : last.next ≡ Unknown → (later : List ℕ) → output ≡ lines_of (input ++ later)
  pub unread : last.next ≡ Unread → output ≡ (feed start input).text
