-- A record's answer is never a refusal with the retired number.
-- Assumes nothing.
use mathlib.Core.Path.{◌≡◌}
use mathlib.Core.List.{List}
use Prim.Native.Nat.{ℕ}
use native.Mathlib.Omega.{arith}
use Rattle.std.specs.Prelude.{Result, Ok, Err}
use Rattle.base.specs.declared.Refusal.{Refusal}
use Rattle.base.specs.Refusal.{RETIRED, number_of}
use Rattle.base.proofs.Refusals.{in_use}
use Rattle.answers.specs.Answering.{answer_of}
use Rattle.answers.specs.declared.Answer.{Answer}

sound : (answer : Result Answer Refusal) → number_of answer ≡ RETIRED → ⊥
sound (Ok answer) e = omega arith
sound (Err refusal) e = in_use (Err refusal) e

pub never_nine : (kind : ℕ) (body : List ℕ) → number_of (answer_of kind body) ≡ RETIRED → ⊥
never_nine kind body = sound (answer_of kind body)
