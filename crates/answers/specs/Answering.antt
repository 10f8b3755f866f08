-- What a record is answered with: the chain of its kind, on its scrambling start and its symbols.
-- Assumes nothing.
use Rattle.std.specs.Prelude.{List, ℕ, ◌+◌, ◌*◌, ltb, eqb, length, get_or, drop, Result, Ok, Err}
use Rattle.base.specs.declared.Refusal.{Refusal}
use Rattle.base.specs.declared.Refusal.TheVariants.{Short, Kind}
use Rattle.base.specs.declared.Received.{Received}
use Rattle.base.specs.declared.Received.TheVariants as received
use Rattle.records.specs.Kinds.{symbols_of}
use Rattle.records.specs.Recording.{pick}
use Rattle.rm3014.specs.declared.Verdict.{Verdict}
use Rattle.errorcontrol_aach.specs.Receiving as access
use Rattle.errorcontrol_cp.specs.Receiving as control
use Rattle.errorcontrol_tp.specs.Receiving as speech
use Rattle.answers.specs.declared.Answer.{Answer}
use Rattle.answers.specs.declared.Answer.TheVariants.{Good, Bad, Aach}

-- the scrambling start: the first four bytes of a body, the most significant first
unfoldable pub start_of : List ℕ → ℕ
start_of body = ((get_or body 0 0 * 256 + get_or body 1 0) * 256 + get_or body 2 0) * 256 + get_or body 3 0

-- what a receive chain found, as the record's
abbrev pub heard : Received → Answer
heard (received.Good counts) = Good counts
heard (received.Bad counts) = Bad counts

-- a receive chain's answer, as the record's
abbrev pub of_received : Result Received Refusal → Result Answer Refusal
of_received (Ok received) = Ok (heard received)
of_received (Err refusal) = Err refusal

-- the AACH chain's answer, as the record's
abbrev pub of_judged : Result Verdict Refusal → Result Answer Refusal
of_judged (Ok verdict) = Ok (Aach verdict)
of_judged (Err refusal) = Err refusal

-- the chain of a known kind: 05 is AACH, 06 a whole speech slot, 07 its second half, and the others are control.
-- The work space is always enough: no control word is longer than 288 bits, and a slot has 274 codec bits and 184 steps
unfoldable pub chain_of : ℕ → ℕ → List ℕ → Result Answer Refusal
chain_of kind start air =
    pick (eqb kind 5) (of_judged (access.answer_of start air))
    (pick (eqb kind 6) (of_received (speech.answer_of 432 start air 274 184))
    (pick (eqb kind 7) (of_received (speech.answer_of 216 start air 274 184)) (of_received (control.answer_of kind start air 288 288))))

-- the answer to a record of the kind with the body: KIND where the kind is not known, SHORT where the start is not there, and otherwise its chain's
unfoldable pub answer_of : ℕ → List ℕ → Result Answer Refusal
answer_of kind body =
    pick (eqb (symbols_of kind) 0) (Err Kind)
    (pick (ltb (length body) 4) (Err Short) (chain_of kind (start_of body) (drop 4 body)))
