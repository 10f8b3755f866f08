-- Document 01's example, an unknown kind alone, a record that is cut, and the empty input, from the definitions.
-- Assumes nothing.
use mathlib.Core.Path.{◌≡◌, refl, ap}
use mathlib.Core.List.{[], ◌∷◌, ◌++◌}
use Rattle.std.specs.Prelude.{Result}
use Rattle.base.specs.declared.Refusal.{Refusal}
use Rattle.answers.specs.declared.Answer.{Answer}
use Rattle.answers.proofs.Examples.{access_body, access_answer}
use Rattle.lines.specs.Text.{ascii, sign, decimal_within}
use Rattle.lines.specs.Lines.{counted, judged, answer_text, line, end_line}
use Rattle.streaming.specs.Runner.{one, feed, closing, lines_of}
use Rattle.records.specs.Kinds.{symbols_of}
use Rattle.records.specs.Recording.{step_at}

-- nothing came
pub of_nothing : lines_of [] ≡ ascii "end 0\n"
unfolding feed closing step_at end_line counted decimal_within sign
of_nothing = refl

-- a kind that is not known
pub of_unknown : lines_of (0x7f ∷ []) ≡ ascii "1 7f unknown\nend 0\n"
unfolding one feed closing step_at symbols_of line end_line counted decimal_within sign
of_unknown = refl

-- a record that is cut behind its kind
pub of_cut : lines_of (0x05 ∷ []) ≡ ascii "1 05 short\nend 0\n"
unfolding one feed closing step_at symbols_of line end_line counted decimal_within sign
of_cut = refl

-- document 01: kind 05, start 0, the 30 bits of 0x20009b61, then a byte 7f
pub of_document : lines_of ((0x05 ∷ access_body) ++ (0x7f ∷ [])) ≡ ascii "1 05 mended 30 2000\n2 7f unknown\nend 1\n"
unfolding one feed closing step_at symbols_of line end_line counted judged decimal_within sign
of_document = ap (λ (a : Result Answer Refusal). line 1 5 (answer_text a) ++ line 2 0x7f (ascii "unknown") ++ end_line 1) access_answer
