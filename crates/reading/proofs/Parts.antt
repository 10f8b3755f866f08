-- Laws of the two parts of a turn.
-- Assumes nothing.
use mathlib.Core.Bool.{Bool, true, false}
use mathlib.Core.Path.{◌≡◌, refl, sym, ap, ◌∙◌}
use mathlib.Core.Logic.{◌⊎◌, inl, inr}
use mathlib.Core.List.{List, [], ◌++◌, append_assoc}
use Prim.Native.Nat.{ℕ, ◌-◌, ◌≤◌, ◌<◌}
use native.Mathlib.Omega.{arith}
use borrow.Author.Tests.{eq-eqb, ne_eqb}
use lib.Dec.{eqb}
use lib.ListN.{length, take}
use Rattle.records.specs.Recording.{pick}
use Rattle.lines.specs.private.Placing.{Put}
use Rattle.lines.proofs.Placing.{put_front}
use Rattle.streaming.specs.Runner.{State, holding, start, feed, closing}
use Rattle.streaming.specs.Limits.{LARGEST}
use Rattle.streaming.specs.private.Advancing.{Roomy, Advances}
use Rattle.streaming.specs.declared.inner.Stepped.{Stepped}
use Rattle.streaming.proofs.Feeding.{feed_append, over, over_stays, lines_by}
use Rattle.streaming.proofs.Waiting.{waits_held}
use Rattle.reading.specs.declared.Next.{Next}
use Rattle.reading.specs.declared.Next.TheVariants.{Goes, Whole, Cut, Unknown, Full}
use Rattle.reading.specs.Reading.{Stands, ending_of, Ends}
use Rattle.reading.specs.private.Parts.{Brings, Finishes}

-- ---- the input has ended
whole_held : (l : List ℕ) → length l ≡ 0 → pick (eqb (length l) 0) Whole Cut ≡ Whole
whole_held l h = simp (eq-eqb (length l) 0 h)

cut_held : (l : List ℕ) → 0 < length l → pick (eqb (length l) 0) Whole Cut ≡ Cut
cut_held l h = simp (ne_eqb (length l) 0 (λ z. omega arith))

module _ (rest : List ℕ) (count : ℕ) {written : ℕ} {old out : List ℕ} (p : Put (closing rest count) 0 old out written) (fits : written ≤ length out) where
  ends : (input text : List ℕ) {next : Next} → Stands input rest text count → pick (eqb (length rest) 0) Whole Cut ≡ next → Ends next input (text ++ take written out)
  ends input text e h = record {
    how = ap ending_of e ∙ h;
    lines = lines_by input e ∙ ap (λ (l : List ℕ). text ++ l) (sym (put_front (omega arith) p));
  }

  pub finishes_whole : length rest ≡ 0 → Finishes rest count (record { kept = 0; written = written; count = count; next = Whole }) out
  finishes_whole h = record {
    says = λ input text kept e. ends input text e (whole_held rest h);
    how = inl refl;
    fits = fits;
    over = λ g. let z : ◌≡◌ {A = ℕ} 0 1 = cc in absurd (omega arith);
  }

  pub finishes_cut : 0 < length rest → Finishes rest count (record { kept = 0; written = written; count = count; next = Cut }) out
  finishes_cut h = record {
    says = λ input text kept e. ends input text e (cut_held rest h);
    how = inr refl;
    fits = fits;
    over = λ g. let z : ◌≡◌ {A = ℕ} 0 1 = cc in absurd (omega arith);
  }

-- ---- bytes have come
module _ (bytes : List ℕ) (count : ℕ) (old : List ℕ) {p : Stepped} {buf out : List ℕ} (a : Advances bytes count old p buf out) where
  -- what was not taken is kept
  abbrev kept : ℕ
  kept = length bytes - p.taken

  -- the definition after the input, from what was written and counted, by whether the reading has stopped
  came :
      (input text : List ℕ) {s : Bool} → p.stopped ≡ s → feed start input ≡ feed (holding [] text count) bytes
      → feed start input ≡ feed (record { held = []; text = text ++ take p.written out; count = p.count; stopped = s }) (take kept buf)
  came input text z e =
      e ∙ a.fed text
      ∙ ap (λ (s : Bool). feed (record { held = []; text = text ++ take p.written out; count = p.count; stopped = s }) (take kept buf)) z

  pub brings_goes :
      {k : ℕ} → k ≡ kept → p.stopped ≡ false → Roomy bytes old p → p.written ≤ length out
      → Brings bytes count (record { kept = k; written = p.written; count = p.count; next = Goes }) buf out
  brings_goes {k} l z m fits = record {
    says = λ input text e.
        came input text z e ∙ waits_held (take kept buf) (text ++ take p.written out) p.count (a.waits z m)
        ∙ ap (λ (n : ℕ). holding (take n buf) (text ++ take p.written out) p.count) (sym l);
    how = inl refl;
    kept_in = omega (arith, l);
    fits = fits;
    less = λ g. (omega (arith, l, a.less z m, a.taken_in), m.number);
    moves = λ g. moved (a.moves z);
  }
    where
      moved : (count < p.count) ⊎ ((p.count ≡ count) × (p.taken ≡ 0)) → (count < p.count) ⊎ ((p.count ≡ count) × (k ≡ length bytes))
      moved (inl x) = inl x
      moved (inr x) = inr (x.0, omega (arith, l, x.1))

  pub brings_full :
      p.stopped ≡ false → LARGEST ≤ p.count → p.written ≤ length out
      → Brings bytes count (record { kept = 0; written = p.written; count = p.count; next = Full }) buf out
  brings_full z m fits = record {
    says = λ input text e. (m, take kept buf, came input text z e);
    how = inr (inr refl);
    kept_in = omega arith;
    fits = fits;
    less = λ g. let z : ◌≡◌ {A = ℕ} 0 1 = cc in absurd (omega arith);
    moves = λ g. let z : ◌≡◌ {A = ℕ} 0 1 = cc in absurd (omega arith);
  }

  pub brings_unknown :
      p.stopped ≡ true → {written : ℕ} {last : List ℕ} → p.written ≤ length out → Put (closing [] p.count) p.written out last written → written ≤ length last
      → Brings bytes count (record { kept = 0; written = written; count = p.count; next = Unknown }) buf last
  brings_unknown z {written} {last} inside put fits = record {
    says = λ input text e later. ends_unknown input text e later;
    how = inr (inl refl);
    kept_in = omega arith;
    fits = fits;
    less = λ g. let z : ◌≡◌ {A = ℕ} 0 1 = cc in absurd (omega arith);
    moves = λ g. let z : ◌≡◌ {A = ℕ} 0 1 = cc in absurd (omega arith);
  }
    where
      ends_unknown :
          (input text : List ℕ) → feed start input ≡ feed (holding [] text count) bytes
          → (later : List ℕ) → Ends Unknown (input ++ later) (text ++ take written last)
      ends_unknown input text e later =
          let front : List ℕ = take p.written out in
          let stays : feed start (input ++ later) ≡ over (text ++ front) p.count =
          feed_append start input later
          ∙ ap (λ (s : State). feed s later) (came input text z e ∙ over_stays (text ++ front) p.count (take kept buf))
          ∙ over_stays (text ++ front) p.count later in
          record {
            how = ap ending_of stays;
            lines =
                lines_by (input ++ later) stays ∙ append_assoc text front (closing [] p.count)
                ∙ ap (λ (l : List ℕ). text ++ l) (sym (put_front inside put));
          }
