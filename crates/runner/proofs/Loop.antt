-- Laws of the loop.
-- Assumes nothing.
use Rattle.std.proofs.Common.{◌≡◌, ℕ, zero, suc, ◌+◌, ◌-◌, ◌*◌, ◌<◌, Bool, true, false, ◌⊎◌, List, [], ◌++◌, length, take, drop, take-append-drop, sym, refl, ap, ◌∙◌, subst, inl, inr, arith, append_assoc}
use Rattle.std.specs.Io.KnownBytes.{Consumes, Appends}
use Rattle.std.proofs.KnownBytes.{Consumes-nil, Consumes-trans, Appends-nil, Appends-trans}
use Rattle.std.specs.declared.option.Option.{Option}
use lib.Seq.{take-append-add}
use Rattle.streaming.specs.Limits.{LARGEST, LONGEST}
use Rattle.streaming.specs.Runner.{State, lines_of}
use Rattle.reading.specs.declared.Next.{Next}
use Rattle.reading.specs.declared.Next.TheVariants.{Goes, Whole, Cut, Unknown, Unread, Unwritten, Full}
use Rattle.reading.specs.declared.Got.{Got}
use Rattle.reading.specs.declared.Turn.{Turn}
use Rattle.reading.specs.Turns.{first, wrote, bytes_of, has_failed}
use Rattle.reading.specs.Reading.{brought, Says, Takes, Onward}
use Rattle.reading.specs.Pieces.{Ran, begins, turns, loses}
use Rattle.reading.proofs.Pieces.{any_pieces}
use Rattle.runner.specs.Loop.{Story, Tells}
use Rattle.runner.specs.private.Transfers.{Reads, Lands, Writes}
use Rattle.runner.proofs.Fronts.{Front, front_says}

-- ---- the invariant
-- where a turn goes on, there is room for a read and a number for a line
pub record Ready (turn : Turn) : Type 0 where
  pub less : turn.kept < LONGEST
  pub number : turn.count < LARGEST

pub ready_first : {t : Turn} → t ≡ first → Ready t
ready_first e = record { less = omega (arith, ap (λ (x : Turn). x.kept) e); number = omega (arith, ap (λ (x : Turn). x.count) e) }

pub story_first : (given had : Option (List ℕ)) {t : Turn} (buf : List ℕ) → t ≡ first → Story given given had had t buf
story_first given had buf e =
    subst (λ (x : Turn). Story given given had had x buf) (sym e) (record {
      input = [];
      text = [];
      ran = begins buf;
      came = Consumes-nil given;
      went = λ n. Appends-nil had;
      part = (0, Appends-nil had);
      end = λ x. elim x [ inl y ↦ let z : ◌≡◌ {A = ℕ} 0 1 = cc in absurd (omega arith) | inr y ↦ let z : ◌≡◌ {A = ℕ} 0 1 = cc in absurd (omega arith) ];
    })

-- a turn's lines are never said to be unwritten by the library itself; and it says that the input has ended only where a read brought nothing
module _ {held : Turn} {got : Got} {from : List ℕ} {r : Turn} {buf out : List ℕ} (t : Takes held got from r buf out) where
  by_read :
      (P : Next → Type 0) → P Unread → (has_failed got ≡ false → bytes_of got ≡ 0 → P Whole × P Cut) → P Goes × (P Unknown × P Full) → P r.next
  by_read P unread ended came = go (has_failed got) refl (bytes_of got) refl
    where
      two : (has_failed got ≡ false) → (bytes_of got ≡ 0) → (r.next ≡ Whole) ⊎ (r.next ≡ Cut) → P r.next
      two f n (inl e) = subst P (sym e) (ended f n).0
      two f n (inr e) = subst P (sym e) (ended f n).1

      three : (r.next ≡ Goes) ⊎ ((r.next ≡ Unknown) ⊎ (r.next ≡ Full)) → P r.next
      three (inl e) = subst P (sym e) came.0
      three (inr (inl e)) = subst P (sym e) came.1.0
      three (inr (inr e)) = subst P (sym e) came.1.1

      go : (failed : Bool) → has_failed got ≡ failed → (bytes : ℕ) → bytes_of got ≡ bytes → P r.next
      go true f n m = subst P (sym (t.failed f)) unread
      go false f zero m = two f m (t.ended f m)
      go false f (suc n) m = three (t.came f (omega (arith, m)))

  pub never_unwritten : r.next ≡ Unwritten → ⊥
  never_unwritten =
      by_read (λ (n : Next). n ≡ Unwritten → ⊥) (λ e. let z : ◌≡◌ {A = ℕ} 0 1 = cc in omega arith)
      (λ f n. (λ e. let z : ◌≡◌ {A = ℕ} 0 1 = cc in omega arith, λ e. let z : ◌≡◌ {A = ℕ} 0 1 = cc in omega arith))
      (λ e. let z : ◌≡◌ {A = ℕ} 0 1 = cc in omega arith, (λ e. let z : ◌≡◌ {A = ℕ} 0 1 = cc in omega arith, λ e. let z : ◌≡◌ {A = ℕ} 0 1 = cc in omega arith))

  pub ends_at_end : {E : Type 0} → (has_failed got ≡ false → bytes_of got ≡ 0 → E) → (r.next ≡ Whole) ⊎ (r.next ≡ Cut) → E
  ends_at_end {E} end =
      by_read (λ (n : Next). (n ≡ Whole) ⊎ (n ≡ Cut) → E) (λ x. apart x (λ e. cc) (λ e. cc))
      (λ f n. (λ x. end f n, λ x. end f n))
      (λ x. apart x (λ e. cc) (λ e. cc), (λ x. apart x (λ e. cc) (λ e. cc), λ x. apart x (λ e. cc) (λ e. cc)))
    where
      apart : {A B : Type 0} → A ⊎ B → (A → ◌≡◌ {A = ℕ} 0 1) → (B → ◌≡◌ {A = ℕ} 0 1) → E
      apart (inl a) f g = let z = f a in absurd (omega arith)
      apart (inr b) f g = let z = g b in absurd (omega arith)

module _
    {now has : Option (List ℕ)} (held : Turn) {got : Got} {from : List ℕ} {r : Turn} {buf out : List ℕ} (g : held.next ≡ Goes)
    (w : Writes now has held got from r buf out)
  where
    goes_on : held.next ≡ Unwritten → ⊥
    goes_on e = let z : ◌≡◌ {A = ℕ} 0 1 = cc in omega arith

    pub onward : r.next ≡ Goes → Onward held r
    onward z = subst (λ (x : Turn). Onward held x) (sym w.is) (go w.done (ap (λ (x : Turn). x.next) (sym w.is) ∙ z))
      where
        go : (done : Bool) → (wrote done w.turn).next ≡ Goes → Onward held (wrote done w.turn)
        go true e = w.takes.onward e
        go false e = let n : ◌≡◌ {A = ℕ} 0 1 = cc in absurd (omega arith)

    pub ready_on : r.next ≡ Goes → Ready r
    ready_on z = record { less = (onward z).less; number = (onward z).number }

    pub story_on :
        {given mid left had : Option (List ℕ)} {was : List ℕ} → Reads mid left held got was from → Story given mid had now held was → Story given left had has r buf
    story_on {given} {mid} {left} {had} {was} d s = subst (λ (x : Turn). Story given left had has x buf) (sym w.is) (go w.done w.lands)
      where
        took : Ran (s.input ++ brought held got from) (s.text ++ take w.turn.written out) w.turn buf
        took = turns got s.ran g d.kept w.takes

        came : Consumes given left (s.input ++ brought held got from)
        came = Consumes-trans given mid left s.input (brought held got from) s.came d.came

        before : Appends had now s.text
        before = s.went goes_on

        part : (n : ℕ) → Appends now has (take n (take w.turn.written out)) → (n : ℕ) × Appends had has (take n (s.text ++ take w.turn.written out))
        part n p = (
          length s.text + n,
          subst (Appends had has) (sym (take-append-add s.text (take w.turn.written out) n))
              (Appends-trans had now has s.text (take n (take w.turn.written out)) before p),
        )

        go : (done : Bool) → Lands now has (take w.turn.written out) done → Story given left had has (wrote done w.turn) buf
        go true l = record {
          input = _;
          text = _;
          ran = took;
          came = came;
          went = λ n. Appends-trans had now has s.text (take w.turn.written out) before (l.all refl);
          part = part l.part.0 l.part.1;
          end = ends_at_end w.takes d.end;
        }
        go false l = record {
          input = _;
          text = _;
          ran = loses took;
          came = came;
          went = λ n. absurd (n refl);
          part = part l.part.0 l.part.1;
          end = λ x. elim x [ inl y ↦ let z : ◌≡◌ {A = ℕ} 0 1 = cc in absurd (omega arith) | inr y ↦ let z : ◌≡◌ {A = ℕ} 0 1 = cc in absurd (omega arith) ];
        }

-- ---- what the story tells
-- the text is a front of the input's lines
front_of : {input text buf : List ℕ} {turn : Turn} → Ran input text turn buf → Front text (lines_of input)
front_of (begins buf) = record { rest = lines_of []; is = refl }
front_of (turns {r = r} got ran goes kept takes) =
    front_says r.next _ _ _ _ (any_pieces (turns got ran goes kept takes)) (never_unwritten takes)
front_of (loses ran) = front_of ran

-- a front of a front
front_part : (n : ℕ) {text lines : List ℕ} → Front text lines → Front (take n text) lines
front_part n {text} {lines} f = record {
  rest = drop n text ++ f.rest;
  is =
      f.is ∙ ap (λ (l : List ℕ). l ++ f.rest) (sym (take-append-drop n text)) ∙ append_assoc (take n text) (drop n text) f.rest;
}

is_unwritten : (next : Next) → (next ≡ Unwritten) ⊎ (next ≡ Unwritten → ⊥)
is_unwritten Goes = inr (λ e. let z : ◌≡◌ {A = ℕ} 0 1 = cc in omega arith)
is_unwritten Whole = inr (λ e. let z : ◌≡◌ {A = ℕ} 0 1 = cc in omega arith)
is_unwritten Cut = inr (λ e. let z : ◌≡◌ {A = ℕ} 0 1 = cc in omega arith)
is_unwritten Unknown = inr (λ e. let z : ◌≡◌ {A = ℕ} 0 1 = cc in omega arith)
is_unwritten Unread = inr (λ e. let z : ◌≡◌ {A = ℕ} 0 1 = cc in omega arith)
is_unwritten Unwritten = inl refl
is_unwritten Full = inr (λ e. let z : ◌≡◌ {A = ℕ} 0 1 = cc in omega arith)

pub tells : {given left had has : Option (List ℕ)} {last : Turn} {buf : List ℕ} → Story given left had has last buf → Tells given left had has last
tells {given} {left} {had} {has} {last} {buf} s = go (is_unwritten last.next)
  where
    kept : List ℕ
    kept = take last.kept buf

    says : Says last.next s.input kept s.text last.count
    says = any_pieces s.ran

    being : (next : Next) → last.next ≡ next → Says next s.input kept s.text last.count
    being next e = subst (λ (n : Next). Says n s.input kept s.text last.count) e says

    whole : (last.next ≡ Whole) ⊎ (last.next ≡ Cut) → s.text ≡ lines_of s.input
    whole (inl e) = sym (being Whole e).lines
    whole (inr e) = sym (being Cut e).lines

    go : (last.next ≡ Unwritten) ⊎ (last.next ≡ Unwritten → ⊥) → Tells given left had has last
    go (inl e) = record {
      input = s.input;
      output = take s.part.0 s.text;
      came = s.came;
      went = s.part.1;
      rest = (front_part s.part.0 (front_of s.ran)).rest;
      front = (front_part s.part.0 (front_of s.ran)).is;
      ended = λ x. elim x [ inl y ↦ let z : ◌≡◌ {A = ℕ} 0 1 = cc in absurd (omega arith) | inr y ↦ let z : ◌≡◌ {A = ℕ} 0 1 = cc in absurd (omega arith) ];
      unknown = λ y later. let z : ◌≡◌ {A = ℕ} 0 1 = cc in absurd (omega arith);
      unread = λ y. let z : ◌≡◌ {A = ℕ} 0 1 = cc in absurd (omega arith);
    }
    go (inr n) = record {
      input = s.input;
      output = s.text;
      came = s.came;
      went = s.went n;
      rest = (front_of s.ran).rest;
      front = (front_of s.ran).is;
      ended = λ x. (s.end x, whole x);
      unknown = λ y later. sym ((being Unknown y) later).lines;
      unread = λ y. ap (λ (z : State). z.text) (sym (being Unread y));
    }

-- ---- the measure: each turn that goes on counts a record or keeps more
abbrev left_by : Next → ℕ → ℕ
left_by Goes n = suc n
left_by Whole n = 0
left_by Cut n = 0
left_by Unknown n = 0
left_by Unread n = 0
left_by Unwritten n = 0
left_by Full n = 0

abbrev pub left : Turn → ℕ
left turn = left_by turn.next ((LARGEST - turn.count) * LONGEST + (LONGEST - turn.kept))

fewer :
    (held r : Turn) → held.kept < LONGEST → Onward held r
    → (LARGEST - r.count) * LONGEST + (LONGEST - r.kept) < (LARGEST - held.count) * LONGEST + (LONGEST - held.kept)
fewer held r h o = go o.moves
  where
    go :
        (held.count < r.count) ⊎ ((r.count ≡ held.count) × (held.kept < r.kept))
        → (LARGEST - r.count) * LONGEST + (LONGEST - r.kept) < (LARGEST - held.count) * LONGEST + (LONGEST - held.kept)
    go (inl x) = omega (arith, x, h, o.less, o.number)
    go (inr x) = omega (arith, x.0, x.1, h, o.less)

pub falls : (held r : Turn) → held.next ≡ Goes → Ready held → (r.next ≡ Goes → Onward held r) → left r < left held
falls held r g b o = go r.next refl
  where
    full : left held ≡ suc ((LARGEST - held.count) * LONGEST + (LONGEST - held.kept))
    full = ap (λ (next : Next). left_by next ((LARGEST - held.count) * LONGEST + (LONGEST - held.kept))) g

    go : (next : Next) → r.next ≡ next → left_by next ((LARGEST - r.count) * LONGEST + (LONGEST - r.kept)) < left held
    go Goes e = omega (arith, full, fewer held r b.less (o e))
    go Whole e = omega (arith, full)
    go Cut e = omega (arith, full)
    go Unknown e = omega (arith, full)
    go Unread e = omega (arith, full)
    go Unwritten e = omega (arith, full)
    go Full e = omega (arith, full)
