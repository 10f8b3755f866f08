-- The runner's lines (document 01, "The runner"): one space parts the fields, and each line ends with a newline.
-- Assumes nothing.
use Rattle.std.specs.Prelude.{List, ◌++◌, ℕ, Result, Ok, Err}
use Rattle.base.specs.declared.Refusal.{Refusal}
use Rattle.base.specs.Refusal.{number}
use Rattle.rm3014.specs.declared.Verdict.TheVariants.{Clean, Mended, Beyond}
use Rattle.answers.specs.declared.Answer.{Answer}
use Rattle.answers.specs.declared.Answer.TheVariants.{Good, Bad, Aach}
use Rattle.lines.specs.Text.{ascii, hex, decimal}

-- no line is longer than this, at the widths that the runner's numbers have
abbrev pub LINE : ℕ
LINE = 80

-- a word and a number
unfoldable pub counted : List ℕ → ℕ → List ℕ
counted word n = word ++ ascii " " ++ decimal n

-- a word, a place and four digits of data
unfoldable pub judged : List ℕ → ℕ → ℕ → List ℕ
judged word place contents = counted word place ++ ascii " " ++ hex 4 contents

-- an answer: what a chain counted; a verdict, whose place is 0 if none was mended; or the number of a refusal
abbrev pub answer_text : Result Answer Refusal → List ℕ
answer_text (Ok (Good counts)) = counted (ascii "good") counts.disagreements
answer_text (Ok (Bad counts)) = counted (ascii "bad") counts.disagreements
answer_text (Ok (Aach (Clean contents))) = judged (ascii "clean") 0 contents
answer_text (Ok (Aach (Mended place contents))) = judged (ascii "mended") place contents
answer_text (Ok (Aach (Beyond contents))) = judged (ascii "beyond") 0 contents
answer_text (Err refusal) = counted (ascii "refused") (number refusal)

-- the line of a record: its number, its kind in two digits, and what is said of it
unfoldable pub line : ℕ → ℕ → List ℕ → List ℕ
line number kind said = decimal number ++ ascii " " ++ hex 2 kind ++ ascii " " ++ said ++ ascii "\n"

-- the last line
unfoldable pub end_line : ℕ → List ℕ
end_line count = counted (ascii "end") count ++ ascii "\n"
