-- How long what is said of a record can get, and what stands before it.
-- Assumes nothing.
use Rattle.std.specs.Prelude.{List, ◌++◌, ℕ}
use Rattle.lines.specs.Text.{ascii, hex, decimal}
use Rattle.lines.specs.Lines.{answer_text}
use Rattle.lines.specs.declared.inner.Said.{Said}
use Rattle.lines.specs.declared.inner.Said.TheVariants.{Answered, Unknown, Short}

-- what is said of a record is no longer than this
abbrev pub SAID : ℕ
SAID = 55

-- number and kind
unfoldable pub heading : ℕ → ℕ → List ℕ
heading number kind = decimal number ++ ascii " " ++ hex 2 kind ++ ascii " "

-- the text of what is said
abbrev pub said_text : Said → List ℕ
said_text (Answered answer) = answer_text answer
said_text Unknown = ascii "unknown"
said_text Short = ascii "short"
