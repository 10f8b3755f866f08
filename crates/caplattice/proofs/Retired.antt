-- No call returns the retired number: what is returned is the number of the entry's refusal, or 0, whatever the entry is.
-- Assumes nothing.
use mathlib.Core.Path.{◌≡◌, refl, sym, ap, ◌∙◌}
use mathlib.Core.List.{List}
use mathlib.Core.Bool.{Bool, true, false}
use Prim.Native.Nat.{ℕ}
use Rattle.std.specs.Prelude.{Ok, Err}
use Rattle.base.specs.declared.Counts.{Counts}
use Rattle.base.specs.Refusal.{Owed, Current, RETIRED, number_of, valued, reception}
use Rattle.rm3014.specs.declared.Verdict.{Verdict}
use Rattle.rm3014.specs.declared.Verdict.TheVariants.{Clean, Mended, Beyond}
use Rattle.caplattice.specs.Answer.{valued_report, received_report, judged_report, encoded_report}
use Rattle.caplattice.specs.Promises.{Tells, Answers}

-- an entry that is done or refuses
pub outcome_current : {promise : Owed → Type 0} {refusal : Owed} {r : ℕ} → Current refusal → ((x : Owed) → promise x → x ≡ refusal)
    → Answers promise (λ x. r ≡ number_of x) → r ≡ RETIRED → ⊥
outcome_current current is h e = current (ap number_of (sym (is h.own h.kept)) ∙ sym h.told ∙ e)

-- an entry that has more to say
pub told_current : {A : Type 0} {promise : A → Type 0} {report : A → ℕ × List ℕ} (refusal : Owed) {r : ℕ} {after : List ℕ} → Current refusal
    → ((x : A) → promise x → (report x).0 ≡ number_of refusal) → Answers promise (λ x. Tells (report x) r after) → r ≡ RETIRED → ⊥
told_current refusal current is h e = current (sym (is h.own h.kept) ∙ sym h.told.number ∙ e)

-- ---- what is told of an answer begins with the number of its refusal, or 0
pub valued_number : (said : ℕ → ℕ × List ℕ) (refusal : Owed) (value : ℕ) (before : List ℕ) → (said value).0 ≡ 0
    → (valued_report said (valued refusal value) before).0 ≡ number_of refusal
valued_number said (Ok done) value before e = e
valued_number said (Err refusal) value before e = refl

pub received_number : (refusal : Owed) (good : Bool) (counts : Counts) (before : List ℕ) → (received_report (reception refusal good counts) before).0 ≡ number_of refusal
received_number (Ok done) true counts before = refl
received_number (Ok done) false counts before = refl
received_number (Err refusal) good counts before = refl

pub judged_number : (refusal : Owed) (v : Verdict) (before : List ℕ) → (judged_report (valued refusal v) before).0 ≡ number_of refusal
judged_number (Ok done) (Clean bits) before = refl
judged_number (Ok done) (Mended place bits) before = refl
judged_number (Ok done) (Beyond bits) before = refl
judged_number (Err refusal) v before = refl

pub encoded_number : (refusal : Owed) (next : ℕ) (before : List ℕ) → (encoded_report refusal next before).0 ≡ number_of refusal
encoded_number (Ok done) next before = refl
encoded_number (Err refusal) next before = refl
