-- The records' table of symbols and the chains' own counts are one: a whole record is never SHORT for its chain, and one symbol less is.
-- Assumes nothing.
use mathlib.Core.Path.{◌≡◌, refl, sym, ap, ◌∙◌}
use mathlib.Core.List.{List}
use mathlib.Core.Bool.{Bool, true, false, not}
use Prim.Native.Nat.{ℕ, zero, suc, ◌≤◌, ◌<◌}
use native.Mathlib.Omega.{arith}
use borrow.Author.Tests.{lt-ltb, le-ltb, ne_eqb}
use lib.ListN.{length, drop, length-drop}
use Rattle.base.specs.declared.Counts.{Counts}
use Rattle.base.specs.Bits.{bits_only}
use Rattle.std.specs.Prelude.{Ok, Err}
use Rattle.base.specs.declared.Refusal.TheVariants.{Short}
use Rattle.base.specs.Refusal.{Owed, BIT, accepted, when, valued, reception}
use Rattle.records.specs.Kinds.{symbols_of, body_length}
use Rattle.rm3014.specs.declared.Verdict.{Verdict}
use Rattle.errorcontrol_aach.specs.Receiving.{verdict_from}
use Rattle.errorcontrol_cp.specs.Kinds.{is_kind, word_bits, air_symbols}
use Rattle.errorcontrol_cp.specs.Receiving as control
use Rattle.errorcontrol_tp.specs.Receiving as speech
use Rattle.answers.specs.Answering.{of_received, of_judged, start_of, chain_of, answer_of}

-- a receive chain that refuses nothing does not answer SHORT
heard_not_short : (refusal : Owed) (good : Bool) (counts : Counts) → refusal ≡ accepted → of_received (reception refusal good counts) ≡ Err Short → ⊥
heard_not_short (Ok done) good counts e f = absurd cc
heard_not_short (Err refusal) good counts e f = absurd cc

-- nor does the access field's, where it refuses nothing but entries that are no bits
judged_not_short : (plain : Bool) (v : Verdict) → of_judged (valued (when (not plain) BIT accepted) v) ≡ Err Short → ⊥
judged_not_short true v f = absurd cc
judged_not_short false v f = absurd cc

module _ (start : ℕ) (air : List ℕ) where
  control_not_short : (kind : ℕ) → control.receive_refusal kind (length air) 288 288 ≡ accepted → of_received (control.answer_of kind start air 288 288) ≡ Err Short → ⊥
  control_not_short kind e =
      heard_not_short (control.receive_refusal kind (length air) 288 288) (control.good kind (control.word_from kind start air)) (control.counts_of kind start air) e

  -- ---- as many symbols as the record's kind says
  pub chain_not_short : (kind : ℕ) → (symbols_of kind ≡ 0 → ⊥) → length air ≡ symbols_of kind → chain_of kind start air ≡ Err Short → ⊥
  unfolding symbols_of chain_of is_kind word_bits air_symbols
  chain_not_short zero k e = absurd (k refl)
  chain_not_short (suc zero) k e = control_not_short 1 (ap (λ (n : ℕ). control.receive_refusal 1 n 288 288) e)
  chain_not_short (suc (suc zero)) k e = control_not_short 2 (ap (λ (n : ℕ). control.receive_refusal 2 n 288 288) e)
  chain_not_short (suc (suc (suc zero))) k e = control_not_short 3 (ap (λ (n : ℕ). control.receive_refusal 3 n 288 288) e)
  chain_not_short (suc (suc (suc (suc zero)))) k e = control_not_short 4 (ap (λ (n : ℕ). control.receive_refusal 4 n 288 288) e)
  chain_not_short (suc (suc (suc (suc (suc zero))))) k e =
      λ f. judged_not_short (bits_only 30 air) (verdict_from start air) (rw (le-ltb (length air) 30 (omega arith)) at f)
  chain_not_short (suc (suc (suc (suc (suc (suc zero)))))) k e =
      heard_not_short (speech.receive_refusal 432 (length air) 274 184) (speech.good (speech.word_from 432 start air)) (speech.counts_of 432 start air)
      (ap (λ (n : ℕ). speech.receive_refusal 432 n 274 184) e)
  chain_not_short (suc (suc (suc (suc (suc (suc (suc zero))))))) k e =
      heard_not_short (speech.receive_refusal 216 (length air) 274 184) (speech.good (speech.word_from 216 start air)) (speech.counts_of 216 start air)
      (ap (λ (n : ℕ). speech.receive_refusal 216 n 274 184) e)
  chain_not_short (suc (suc (suc (suc (suc (suc (suc (suc kind)))))))) k e = absurd (k refl)

  -- ---- fewer
  pub chain_short : (kind : ℕ) → length air < symbols_of kind → chain_of kind start air ≡ Err Short
  unfolding symbols_of chain_of is_kind air_symbols
  chain_short zero h = absurd (omega arith)
  chain_short (suc zero) h = rw (lt-ltb (length air) 120 h)
  chain_short (suc (suc zero)) h = rw (lt-ltb (length air) 168 h)
  chain_short (suc (suc (suc zero))) h = rw (lt-ltb (length air) 216 h)
  chain_short (suc (suc (suc (suc zero)))) h = rw (lt-ltb (length air) 432 h)
  chain_short (suc (suc (suc (suc (suc zero))))) h = rw (lt-ltb (length air) 30 h)
  chain_short (suc (suc (suc (suc (suc (suc zero)))))) h = rw (lt-ltb (length air) 432 h)
  chain_short (suc (suc (suc (suc (suc (suc (suc zero))))))) h = rw (lt-ltb (length air) 216 h)
  chain_short (suc (suc (suc (suc (suc (suc (suc (suc kind)))))))) h = absurd (omega arith)

-- ---- a record's body
module _ (kind : ℕ) (known : symbols_of kind ≡ 0 → ⊥) (body : List ℕ) where
  answer_is : 4 ≤ length body → answer_of kind body ≡ chain_of kind (start_of body) (drop 4 body)
  unfolding answer_of
  answer_is h = rw (ne_eqb (symbols_of kind) 0 known, le-ltb (length body) 4 h)

  pub whole_never_short : length body ≡ body_length kind → answer_of kind body ≡ Err Short → ⊥
  whole_never_short e f =
      chain_not_short (start_of body) (drop 4 body) kind known (omega (arith, length-drop 4 body))
      (sym (answer_is (omega arith)) ∙ f)

  pub less_is_short : 4 ≤ length body → length body < body_length kind → answer_of kind body ≡ Err Short
  less_is_short h l =
      answer_is h ∙ chain_short (start_of body) (drop 4 body) kind (omega (arith, length-drop 4 body))
