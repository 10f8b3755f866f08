-- What a call tells, the way that C and Rust callers get it: the number that it returns and the caller's answer after it. A refusal leaves the
-- answer as it was; beside 0 it is six numbers.
-- Assumes nothing.
use Rattle.std.specs.Prelude.{List, [], ◌∷◌, ℕ, ◌+◌, ◌*◌, ◌^◌, ◌/◌, ◌%◌, get_or, Option, Some, None, Result, Ok, Err}
use Rattle.base.specs.declared.Refusal.{Refusal}
use Rattle.base.specs.declared.Received.{Received}
use Rattle.base.specs.declared.Received.TheVariants as received
use Rattle.base.specs.Refusal.{Owed, number}
use Rattle.rm3014.specs.declared.Verdict.{Verdict}
use Rattle.rm3014.specs.declared.Verdict.TheVariants as verdicts

-- 0 and the six members in their order; erasures and bits are 0, because no entry counts them.
-- The verdicts: 0 DONE (there is nothing to judge), 1 GOOD, 2 BAD, 3 CLEAN, 4 MENDED, 5 BEYOND, 6 MATCHED, 7 DIFFERS.
abbrev pub saying : ℕ → ℕ → ℕ → ℕ → ℕ × List ℕ
saying verdict value disagreements place = (0, verdict ∷ value ∷ disagreements ∷ place ∷ 0 ∷ 0 ∷ [])

-- ---- what is told of each answer, case by case, to a caller whose answer was `before`
-- what is said of the value, or the number of the refusal and the answer as it was
abbrev pub report : {A : Type 0} → (A → ℕ × List ℕ) → Result A Refusal → List ℕ → ℕ × List ℕ
report said (Ok value) before = said value
report said (Err refusal) before = (number refusal, before)

-- a value, which is said as the entry's kind of value is
abbrev pub valued_report : (ℕ → ℕ × List ℕ) → Result ℕ Refusal → List ℕ → ℕ × List ℕ
valued_report said own before = report said own before

abbrev pub received_said : Received → ℕ × List ℕ
received_said (received.Good counts) = saying 1 0 counts.disagreements 0
received_said (received.Bad counts) = saying 2 0 counts.disagreements 0

abbrev pub received_report : Result Received Refusal → List ℕ → ℕ × List ℕ
received_report own before = report received_said own before

abbrev pub verdict_said : Verdict → ℕ × List ℕ
verdict_said (verdicts.Clean bits) = saying 3 bits 0 0
verdict_said (verdicts.Mended place bits) = saying 4 bits 0 place
verdict_said (verdicts.Beyond bits) = saying 5 bits 0 0

abbrev pub judged_report : Result Verdict Refusal → List ℕ → ℕ × List ℕ
judged_report own before = report verdict_said own before

abbrev pub compared_report : Option ℕ → ℕ × List ℕ
compared_report (Some n) = saying 6 n 0 0
compared_report None = saying 7 0 0 0

-- ---- an encoder's delays
-- the four delays, the newest first, as one number whose last byte is the newest
abbrev pub delays_number : List ℕ → ℕ
delays_number ds = get_or ds 0 0 + 256 * (get_or ds 1 0 + 256 * (get_or ds 2 0 + 256 * get_or ds 3 0))

-- the four delays in a number
abbrev pub delays_in : ℕ → List ℕ
delays_in n = n % 2 ^ 8 ∷ n / 2 ^ 8 % 2 ^ 8 ∷ n / 2 ^ 16 % 2 ^ 8 ∷ n / 2 ^ 24 % 2 ^ 8 ∷ []

-- an encoder says the number of the delays to go on from
abbrev pub encoded_report : Owed → ℕ → List ℕ → ℕ × List ℕ
encoded_report own next before = report (λ done. saying 0 next 0 0) own before
