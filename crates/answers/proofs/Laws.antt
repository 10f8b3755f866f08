-- Laws of a record's answer, by its kind.
-- Assumes nothing.
use mathlib.Core.Path.{◌≡◌, sym, ap, ◌∙◌}
use mathlib.Core.List.{List}
use Prim.Native.Nat.{ℕ, ◌-◌, ◌≤◌, ◌<◌}
use native.Mathlib.Omega.{arith}
use borrow.Author.Tests.{lt-ltb, le-ltb, eq-eqb, ne_eqb}
use lib.ListN.{length, take, drop, length-drop}
use lib.Seq.{take_all}
use Rattle.std.specs.Prelude.{Result, Ok, Err, MatchResult, IsOkAnd}
use Rattle.base.specs.declared.Refusal.{Refusal}
use Rattle.base.specs.declared.Refusal.TheVariants.{Short, Kind}
use Rattle.base.specs.declared.Received.{Received}
use Rattle.records.specs.Kinds.{symbols_of}
use Rattle.rm3014.specs.declared.Verdict.{Verdict}
use Rattle.errorcontrol_aach.specs.Receiving as access
use Rattle.answers.specs.private.Chains.{control_answer, speech_answer}
use Rattle.answers.specs.Answering.{start_of, heard, of_received, of_judged, chain_of, answer_of}
use Rattle.answers.specs.declared.Answer.{Answer}
use Rattle.answers.specs.declared.Answer.TheVariants.{Aach}

-- ---- what is found goes over into the record's answer, and a refusal stays
pub heard_in : (r : Result Received Refusal) (a : Result Answer Refusal) → MatchResult r (λ x. IsOkAnd a (λ y. y ≡ heard x)) (λ e. a ≡ Err e) → a ≡ of_received r
heard_in (Ok received) (Ok answer) h = ap Ok h
heard_in (Ok received) (Err refusal) h = absurd h
heard_in (Err refusal) a h = h

pub judged_in : (r : Result Verdict Refusal) (a : Result Answer Refusal) → MatchResult r (λ x. IsOkAnd a (λ y. y ≡ Aach x)) (λ e. a ≡ Err e) → a ≡ of_judged r
judged_in (Ok verdict) (Ok answer) h = ap Ok h
judged_in (Ok verdict) (Err refusal) h = absurd h
judged_in (Err refusal) a h = h

module _ (kind start : ℕ) (air : List ℕ) where
  pub chain_access : {j : Result Verdict Refusal} {a : Result Answer Refusal} → kind ≡ 5 → j ≡ access.answer_of start air → a ≡ of_judged j → a ≡ chain_of kind start air
  unfolding chain_of
  chain_access k e f = f ∙ ap of_judged e ∙ simp (eq-eqb kind 5 k)

  pub chain_slot : {j : Result Received Refusal} {a : Result Answer Refusal} → kind ≡ 6 → j ≡ speech_answer 432 start air → a ≡ of_received j → a ≡ chain_of kind start air
  unfolding chain_of speech_answer
  chain_slot k e f = f ∙ ap of_received e ∙ simp (ne_eqb kind 5 (λ w. omega arith), eq-eqb kind 6 k)

  pub chain_half : {j : Result Received Refusal} {a : Result Answer Refusal} → kind ≡ 7 → j ≡ speech_answer 216 start air → a ≡ of_received j → a ≡ chain_of kind start air
  unfolding chain_of speech_answer
  chain_half k e f = f ∙ ap of_received e ∙ simp (ne_eqb kind 5 (λ w. omega arith), ne_eqb kind 6 (λ w. omega arith), eq-eqb kind 7 k)

  pub chain_control :
      {j : Result Received Refusal} {a : Result Answer Refusal} → (kind ≡ 5 → ⊥) → (kind ≡ 6 → ⊥) → (kind ≡ 7 → ⊥) → j ≡ control_answer kind start air → a ≡ of_received j
      → a ≡ chain_of kind start air
  unfolding chain_of control_answer
  chain_control p q r e f = f ∙ ap of_received e ∙ simp (ne_eqb kind 5 p, ne_eqb kind 6 q, ne_eqb kind 7 r)

module _ (kind : ℕ) (body : List ℕ) where
  pub answer_kind : {n : ℕ} → n ≡ symbols_of kind → n ≡ 0 → Err Kind ≡ answer_of kind body
  unfolding answer_of
  answer_kind e z = simp (eq-eqb (symbols_of kind) 0 (sym e ∙ z))

  pub answer_short : {n : ℕ} → n ≡ symbols_of kind → (n ≡ 0 → ⊥) → length body < 4 → Err Short ≡ answer_of kind body
  unfolding answer_of
  answer_short e z h = simp (ne_eqb (symbols_of kind) 0 (λ w. z (e ∙ w)), lt-ltb (length body) 4 h)

  pub answer_chain :
      {n start : ℕ} {a : Result Answer Refusal} → n ≡ symbols_of kind → (n ≡ 0 → ⊥) → 4 ≤ length body → start ≡ start_of body
      → a ≡ chain_of kind start (take (length body - 4) (drop 4 body)) → a ≡ answer_of kind body
  unfolding answer_of
  answer_chain {n} {start} {a} e z h s f =
      f
      ∙ ap (λ (air : List ℕ). chain_of kind start air) (take_all (length body - 4) (drop 4 body) (omega (arith, length-drop 4 body)))
      ∙ ap (λ (m : ℕ). chain_of kind m (drop 4 body)) s
      ∙ simp (ne_eqb (symbols_of kind) 0 (λ w. z (e ∙ w)), le-ltb (length body) 4 h)
