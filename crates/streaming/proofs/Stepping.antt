-- Laws of a step: the bytes that it takes, fed to the definition of the runner, come to what it says.
-- Assumes nothing.
use mathlib.Core.Path.{◌≡◌, refl, sym, ap, subst, ◌∙◌}
use mathlib.Core.Bool.{Bool, true, false, cond}
use mathlib.Core.Logic.{◌⊎◌, inl, inr}
use mathlib.Core.List.{List, [], ◌++◌, append_assoc, append-nil}
use Rattle.std.specs.Prelude.{Some, Result}
use Rattle.base.specs.declared.Refusal.{Refusal}
use Prim.Native.Nat.{ℕ, ◌+◌, ◌-◌, ◌*◌, ◌≤◌, ◌<◌}
use native.Mathlib.Omega.{arith}
use lib.ListN.{length, take, drop, get_or, length-drop}
use lib.Seq.{take-add, drop-drop}
use Rattle.records.specs.Kinds.{symbols_of, body_length}
use Rattle.records.specs.Recording.{item_at, step_at, body_at, past}
use Rattle.records.specs.declared.Item.{Item}
use Rattle.records.specs.declared.Item.TheVariants.{Whole, Unknown}
use Rattle.records.specs.declared.Step.{Step}
use Rattle.records.proofs.Laws.{symbols_least, step_past, is_whole, is_unknown}
use Rattle.answers.specs.declared.Answer.{Answer}
use Rattle.answers.specs.Answering.{answer_of}
use Rattle.lines.specs.Text.{ascii}
use Rattle.lines.specs.Lines.{LINE, answer_text, line}
use Rattle.lines.specs.private.Placing.{Put}
use Rattle.lines.proofs.Placing.{put_front}
use Rattle.streaming.specs.Runner.{State, holding, feed}
use Rattle.streaming.specs.private.Stepping.{came_to, Able, Reached, NextItem}
use Rattle.streaming.specs.declared.inner.Stepped.{Stepped}
use Rattle.streaming.proofs.Feeding.{feed_append, over, gathers_whole, gathers_unknown}
use Rattle.streaming.proofs.Waiting.{head}

pub no_true : {A : Type 0} → false ≡ true → A
no_true q = absurd (omega (arith, ap {B = ℕ} (λ (t : Bool). cond t 1 0) q))

-- ---- what a reader found
pub found_item : (s : List ℕ) (at : ℕ) {found : Step} {i : Item} → found ≡ step_at s at → found.item ≡ i → item_at s at ≡ i
found_item s at f g = sym (ap (λ (t : Step). t.item) f) ∙ g

pub found_at : (s : List ℕ) (at : ℕ) {found : Step} {kind place : ℕ} → found ≡ step_at s at → found.item ≡ Whole kind place → found.at ≡ past kind at
found_at s at f g = ap (λ (t : Step). t.at) f ∙ step_past s at (found_item s at f g)

-- a whole record stands within the bytes
pub whole_within :
    (s : List ℕ) (at : ℕ) (found : Step) (kind place : ℕ) → found ≡ step_at s at → found.item ≡ Whole kind place
    → (place + 1 ≤ found.at) × (found.at ≤ length s)
whole_within s at found kind place f g =
    let w = is_whole s at (found_item s at f g) in
    (omega (arith, found_at s at f g, w.place_is), omega (arith, found_at s at f g, w.within))

-- the body of a record stands before the next one
pub body_of : (s : List ℕ) (at : ℕ) {found : Step} {kind place : ℕ} → found ≡ step_at s at → found.item ≡ Whole kind place → take (found.at - (place + 1)) (drop (place + 1) s) ≡ body_at s kind place
body_of s at {found} {kind} {place} f g =
    let w = is_whole s at (found_item s at f g) in
    ap (λ (n : ℕ). take n (drop (place + 1) s)) (omega (arith, found_at s at f g, w.place_is))

-- the line of a record, by its body
pub line_of :
    {body other text : List ℕ} (number kind : ℕ) {a : Result Answer Refusal} → a ≡ answer_of kind other → other ≡ body → text ≡ line number kind (answer_text a)
    → text ≡ line number kind (answer_text (answer_of kind body))
line_of number kind e f g =
    g ∙ ap (λ (b : Result Answer Refusal). line number kind (answer_text b)) (e ∙ ap (λ (l : List ℕ). answer_of kind l) f)

-- ---- one item more
module _ (bytes : List ℕ) (p : Stepped) (old : List ℕ) where
  module _ (can : Able p (length old)) where
    -- the definition goes on from where it was
    further :
        {count : ℕ} → Reached bytes count p old → (text : List ℕ) (n : ℕ) {next : State}
        → feed (holding [] (text ++ take p.written old) p.count) (take n (drop p.taken bytes)) ≡ next
        → feed (holding [] text count) (take (p.taken + n) bytes) ≡ next
    further {count} o text n {next} k =
        ap (λ (l : List ℕ). feed (holding [] text count) l) (take-add p.taken n bytes)
        ∙ feed_append (holding [] text count) (take p.taken bytes) (take n (drop p.taken bytes))
        ∙ ap (λ (z : State). feed z (take n (drop p.taken bytes)))
        (o.fed text ∙ ap (λ (b : Bool). came_to text p.written old p.count b) can.reads)
        ∙ k

    -- a line was written behind the text and what stood before it
    behind :
        {more new : List ℕ} {next : ℕ} (text : List ℕ) → p.written ≤ length old → Put more p.written old new next
        → text ++ take p.written old ++ more ≡ text ++ take next new
    behind {more} text h put = append_assoc text (take p.written old) more ∙ ap (λ (l : List ℕ). text ++ l) (sym (put_front h put))

    fed_whole :
        {count kind place next : ℕ} {new : List ℕ} → Reached bytes count p old → item_at bytes p.taken ≡ Whole kind place
        → Put (line (p.count + 1) kind (answer_text (answer_of kind (body_at bytes kind place)))) p.written old new next
        → (text : List ℕ) → feed (holding [] text count) (take (past kind p.taken) bytes) ≡ came_to text next new (p.count + 1) false
    fed_whole {count} {kind} {place} {next} {new} o i put text =
        let w = is_whole bytes p.taken i in
        let d : List ℕ = drop p.taken bytes in
        let before : List ℕ = text ++ take p.written old in
        let same : get_or d 0 0 ≡ kind = head bytes p.taken ∙ sym w.kind_is in
        let room : past kind 0 ≤ length d = omega (arith, w.within, length-drop p.taken bytes) in
        let body : body_at d kind 0 ≡ body_at bytes kind place =
        ap (λ (l : List ℕ). take (body_length kind) l) (drop-drop 1 p.taken bytes) ∙ ap (λ (m : ℕ). body_at bytes kind m) (sym w.place_is) in
        let long : past kind p.taken ≡ p.taken + past kind 0 = omega arith in
        ap (λ (m : ℕ). feed (holding [] text count) (take m bytes)) long
        ∙ further o text (past kind 0)
        (subst
        (λ (k : ℕ). feed (holding [] before p.count) (take (past k 0) d)
        ≡ holding [] (before ++ line (p.count + 1) k (answer_text (answer_of k (body_at d k 0)))) (p.count + 1))
        same
        (gathers_whole d before p.count (λ z. w.known (sym (ap symbols_of same) ∙ z)) (subst (λ (k : ℕ). past k 0 ≤ length d) (sym same) room)))
        ∙ ap (λ (t : List ℕ). holding [] t (p.count + 1))
        (ap (λ (b : List ℕ). before ++ line (p.count + 1) kind (answer_text (answer_of kind b))) body ∙ behind text o.written_in put)

    fed_unknown :
        {count kind next : ℕ} {new : List ℕ} → Reached bytes count p old → item_at bytes p.taken ≡ Unknown kind
        → Put (line (p.count + 1) kind (ascii "unknown")) p.written old new next
        → (text : List ℕ) → feed (holding [] text count) (take (p.taken + 1) bytes) ≡ came_to text next new p.count true
    fed_unknown {count} {kind} {next} {new} o i put text =
        let w = is_unknown bytes p.taken i in
        let d : List ℕ = drop p.taken bytes in
        let before : List ℕ = text ++ take p.written old in
        let same : get_or d 0 0 ≡ kind = head bytes p.taken ∙ sym w.kind_is in
        further o text 1 (gathers_unknown d before p.count (omega (arith, w.inside, length-drop p.taken bytes)) (ap symbols_of same ∙ w.unknown))
        ∙ ap (λ (k : ℕ). over (before ++ line (p.count + 1) k (ascii "unknown")) p.count) same
        ∙ ap (λ (t : List ℕ). over t p.count) (behind text o.written_in put)

    -- a whole record is taken
    pub whole_taken :
        {kind place next at : ℕ} {new : List ℕ} → item_at bytes p.taken ≡ Whole kind place → at ≡ past kind p.taken
        → Put (line (p.count + 1) kind (answer_text (answer_of kind (body_at bytes kind place)))) p.written old new next
        → next ≤ p.written + LINE → next ≤ length new
        → NextItem bytes p old (Some (record { taken = at; written = next; count = p.count + 1; stopped = false })) new
    whole_taken {kind} {place} {next} {at} {new} i a put l fits count o =
        let w = is_whole bytes p.taken i in
        let few : next ≤ 3 * at = omega (arith, a, l, o.thrice can.reads, symbols_least kind w.known) in
        record {
          reached = record {
            fed = λ text. ap (λ (m : ℕ). feed (holding [] text count) (take m bytes)) a ∙ fed_whole o i put text;
            taken_in = omega (arith, a, w.within);
            written_in = fits;
            thrice = λ z. few;
            thrice_and_line = omega (arith, few);
            moves = λ z. inl (more (o.moves can.reads));
            numbered = λ z. no_true z;
          };
          forth = omega (arith, a);
        }
      where
        more : (count < p.count) ⊎ ((p.count ≡ count) × (p.taken ≡ 0)) → count < p.count + 1
        more (inl x) = omega arith
        more (inr x) = omega (arith, x.0)

    -- a kind that is not known stops the reading
    pub unknown_taken :
        {kind next : ℕ} {new : List ℕ} → item_at bytes p.taken ≡ Unknown kind → Put (line (p.count + 1) kind (ascii "unknown")) p.written old new next
        → next ≤ p.written + LINE → next ≤ length new
        → NextItem bytes p old (Some (record { taken = p.taken + 1; written = next; count = p.count; stopped = true })) new
    unknown_taken {kind} {next} {new} i put l fits count o = record {
      reached = record {
        fed = fed_unknown o i put;
        taken_in = omega (arith, (is_unknown bytes p.taken i).inside);
        written_in = fits;
        thrice = λ z. no_true (sym z);
        thrice_and_line = omega (arith, l, o.thrice can.reads);
        moves = λ z. no_true (sym z);
        numbered = λ z. can.number;
      };
      forth = omega arith;
    }

-- ---- the loop
module _ (bytes : List ℕ) (count : ℕ) where
  pub reached_none : (old : List ℕ) → Reached bytes count (record { taken = 0; written = 0; count = count; stopped = false }) old
  unfolding feed
  reached_none old = record {
    fed = λ text. ap (λ (t : List ℕ). holding [] t count) (sym (append-nil text));
    taken_in = omega arith;
    written_in = omega arith;
    thrice = λ z. omega arith;
    thrice_and_line = omega arith;
    moves = λ z. inr (refl, refl);
    numbered = λ z. no_true z;
  }
