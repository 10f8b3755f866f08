-- What is true of every call, whatever the entry.
-- Assumes nothing.
use mathlib.Core.Path.{◌≡◌, sym, ap, ◌∙◌}
use mathlib.Core.List.{List}
use Prim.Native.Nat.{ℕ}
use Rattle.base.specs.Refusal.{Owed, number_of}
use Rattle.caplattice.specs.Promises.{Tells, Answers}

-- the same by another name
pub told_as : {x y : ℕ × List ℕ} {r : ℕ} {after : List ℕ} → x ≡ y → Tells x r after → Tells y r after
told_as {x} {y} e h = record { number = h.number ∙ ap (λ (t : ℕ × List ℕ). t.0) e; answer = h.answer ∙ ap (λ (t : ℕ × List ℕ). t.1) e }

-- where a promise leaves the entry one answer, the call leaves its caller one number and one answer
pub one_answer : {A : Type 0} (promise : A → Type 0) (report : A → ℕ × List ℕ) {r r' : ℕ} {after after' : List ℕ}
    → ((x y : A) → promise x → promise y → x ≡ y)
    → Answers promise (λ x. Tells (report x) r after) → Answers promise (λ x. Tells (report x) r' after') → (r ≡ r') × (after ≡ after')
one_answer promise report one h h' =
    let k : Tells (report h'.own) _ _ = told_as (ap report (one h.own h'.own h.kept h'.kept)) h.told in
    (k.number ∙ sym h'.told.number, k.answer ∙ sym h'.told.answer)

-- the same where only a number is returned
pub one_refusal : (promise : Owed → Type 0) {r r' : ℕ} → ((x y : Owed) → promise x → promise y → x ≡ y)
    → Answers promise (λ x. r ≡ number_of x) → Answers promise (λ x. r' ≡ number_of x) → r ≡ r'
one_refusal promise one h h' = h.told ∙ ap number_of (one h.own h'.own h.kept h'.kept) ∙ sym h'.told
