-- Laws of a whole turn.
-- Assumes nothing.
use mathlib.Core.Bool.{Bool, true, false}
use mathlib.Core.Path.{◌≡◌, refl, sym, ap, subst, ◌∙◌}
use mathlib.Core.Logic.{◌⊎◌, inl, inr}
use mathlib.Core.List.{List, [], ◌++◌, append-nil}
use Prim.Native.Nat.{ℕ, ◌+◌, ◌≤◌, ◌<◌}
use native.Mathlib.Omega.{arith}
use Rattle.std.specs.Prelude.{Option, Some, None, is_none, unwrap_or}
use lib.ListN.{length, take, drop}
use lib.Seq.{take-add, length-take-le}
use Rattle.std.proofs.lemmas.List.{take-append-le}
use Rattle.records.specs.Recording.{pick}
use Rattle.streaming.specs.Runner.{State, holding, start, feed}
use Rattle.streaming.proofs.Stepping.{no_true}
use Rattle.streaming.proofs.Feeding.{feed_append}
use Rattle.streaming.proofs.Waiting.{waits_held, stands_waits}
use Rattle.reading.specs.declared.Next.TheVariants.{Unread}
use Rattle.reading.specs.declared.Got.{Got}
use Rattle.reading.specs.declared.Turn.{Turn}
use Rattle.reading.specs.Turns.{bytes_of, has_failed}
use Rattle.reading.specs.Reading.{Stands, Says, brought, Takes}
use Rattle.reading.specs.private.Parts.{Brings, Finishes}

-- more bytes come
joins :
    (input : List ℕ) {rest text : List ℕ} {count : ℕ} (piece : List ℕ) → Stands input rest text count
    → feed start (input ++ piece) ≡ feed (holding [] text count) (rest ++ piece)
joins input {rest} {text} {count} piece e =
    feed_append start input piece
    ∙ ap (λ (z : State). feed z piece) (e ∙ sym (waits_held rest text count (stands_waits input e)))
    ∙ sym (feed_append (holding [] text count) rest piece)

-- ---- what a read brought
pub is_failed : (got : Got) → got.bytes ≡ None → has_failed got ≡ true
is_failed got e = ap (λ (o : Option ℕ). is_none o) e

pub is_read : (got : Got) {many : ℕ} → got.bytes ≡ Some many → has_failed got ≡ false
is_read got e = ap (λ (o : Option ℕ). is_none o) e

pub is_many : (got : Got) {many : ℕ} → got.bytes ≡ Some many → bytes_of got ≡ many
is_many got e = ap (λ (o : Option ℕ). unwrap_or o 0) e

module _ (held : Turn) (got : Got) (from : List ℕ) where
  brought_none : has_failed got ≡ true → brought held got from ≡ []
  brought_none e = ap (λ (f : Bool). pick f [] (take (bytes_of got) (drop held.kept from))) e

  brought_some : has_failed got ≡ false → brought held got from ≡ take (bytes_of got) (drop held.kept from)
  brought_some e = ap (λ (f : Bool). pick f [] (take (bytes_of got) (drop held.kept from))) e

  -- the input stays as it was
  same : (input : List ℕ) → brought held got from ≡ [] → input ++ brought held got from ≡ input
  same input e = ap (λ (l : List ℕ). input ++ l) e ∙ append-nil input

  pub takes_unread :
      {out : List ℕ} → has_failed got ≡ true
      → Takes held got from (record { kept = held.kept; written = 0; count = held.count; next = Unread }) from out
  takes_unread f = record {
    says = λ input text e.
        ap (λ (l : List ℕ). feed start l) (same input (brought_none f)) ∙ e
        ∙ ap (λ (t : List ℕ). holding (take held.kept from) t held.count) (sym (append-nil text));
    failed = λ e. refl;
    ended = λ e. no_true (sym e ∙ f);
    came = λ e. no_true (sym e ∙ f);
    fits = omega arith;
    onward = λ g. let z : ◌≡◌ {A = ℕ} 0 1 = cc in absurd (omega arith);
  }

  pub takes_end :
      {r : Turn} {buf out : List ℕ} → has_failed got ≡ false → bytes_of got ≡ 0 → Finishes (take held.kept from) held.count r out → Takes held got from r buf out
  takes_end {r} {buf} {out} f n e =
      let none : brought held got from ≡ [] = brought_some f ∙ ap (λ (k : ℕ). take k (drop held.kept from)) n in
      record {
        says = λ input text s.
            subst (λ (l : List ℕ). Says r.next l (take r.kept buf) (text ++ take r.written out) r.count) (sym (same input none))
            (e.says input text (take r.kept buf) s);
        failed = λ z. no_true (sym f ∙ z);
        ended = λ z m. e.how;
        came = λ z m. absurd (omega arith);
        fits = e.fits;
        onward = λ g. absurd (e.over g);
      }

  pub takes_bytes :
      {r : Turn} {front out : List ℕ} {many : ℕ} (rest : List ℕ) → has_failed got ≡ false → bytes_of got ≡ many → 0 < many
      → held.kept + bytes_of got ≤ length from → length front ≡ length (take (held.kept + many) from)
      → Brings (take (held.kept + many) from) held.count r front out → Takes held got from r (front ++ rest) out
  takes_bytes {r} {front} {out} rest f m n h same c =
      let b = subst (λ (k : ℕ). Brings (take (held.kept + k) from) held.count r front out) (sym m) c in
      let kept : take r.kept (front ++ rest) ≡ take r.kept front = take-append-le r.kept front rest (omega (arith, c.kept_in, same)) in
      let bytes = take (held.kept + bytes_of got) from in
      let whole : take held.kept from ++ brought held got from ≡ bytes =
      ap (λ (l : List ℕ). take held.kept from ++ l) (brought_some f) ∙ sym (take-add held.kept (bytes_of got) from) in
      record {
        says = λ input text s.
            subst (λ (l : List ℕ). Says r.next (input ++ brought held got from) l (text ++ take r.written out) r.count) (sym kept)
            (b.says (input ++ brought held got from) text
            (joins input (brought held got from) s ∙ ap (λ (l : List ℕ). feed (holding [] text held.count) l) whole));
        failed = λ z. no_true (sym f ∙ z);
        ended = λ z l. absurd (omega (arith, l, m, n));
        came = λ z l. b.how;
        fits = b.fits;
        onward = λ g. record { less = (b.less g).0; number = (b.less g).1; moves = moves (b.moves g) };
      }
    where
      moves :
          (held.count < r.count) ⊎ ((r.count ≡ held.count) × (r.kept ≡ length (take (held.kept + bytes_of got) from)))
          → (held.count < r.count) ⊎ ((r.count ≡ held.count) × (held.kept < r.kept))
      moves (inl x) = inl x
      moves (inr x) = inr (x.0, omega (arith, x.1, length-take-le (held.kept + bytes_of got) from h))
