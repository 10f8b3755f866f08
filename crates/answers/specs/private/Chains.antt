-- What the receive chains answer, with work space that is always enough.
-- Assumes nothing.
use Rattle.std.specs.Prelude.{List, ℕ, Result}
use Rattle.base.specs.declared.Received.{Received}
use Rattle.base.specs.declared.Refusal.{Refusal}
use Rattle.errorcontrol_cp.specs.Receiving as control
use Rattle.errorcontrol_tp.specs.Receiving as speech

-- the control chain of a kind: the longest word has 288 bits, and its trellis as many entries
unfoldable pub control_answer : ℕ → ℕ → List ℕ → Result Received Refusal
control_answer kind start air = control.answer_of kind start air 288 288

-- the speech chain, on so many symbols: 274 codec bits, and a trellis of 184 entries
unfoldable pub speech_answer : ℕ → ℕ → List ℕ → Result Received Refusal
speech_answer count start air = speech.answer_of count start air 274 184
