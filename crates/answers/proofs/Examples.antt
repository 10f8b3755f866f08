-- Document 01's record, answered: an access field, start 0, the 30 bits of 0x20009b61.
-- Assumes nothing.
use mathlib.Core.Path.{◌≡◌, ap}
use mathlib.Core.List.{List, ◌∷◌}
use Prim.Native.Nat.{ℕ}
use Rattle.std.specs.Prelude.{Ok}
use Rattle.base.specs.Digits.{digits}
use Rattle.records.specs.Kinds.{symbols_of}
use Rattle.rm3014.specs.declared.Verdict.TheVariants.{Mended}
use Rattle.errorcontrol_aach.proofs.Examples.{of_one_wrong_bit}
use Rattle.answers.specs.Answering.{start_of, of_judged, chain_of, answer_of}
use Rattle.answers.specs.declared.Answer.TheVariants.{Aach}

-- its body: the start, and the symbols
abbrev pub access_body : List ℕ
access_body = 0 ∷ 0 ∷ 0 ∷ 0 ∷ digits 30 0x20009b61

pub access_answer : answer_of 5 access_body ≡ Ok (Aach (Mended 30 0x2000))
unfolding symbols_of answer_of chain_of start_of
access_answer = ap of_judged of_one_wrong_bit
