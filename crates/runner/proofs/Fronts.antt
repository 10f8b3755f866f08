-- What has been written is a front of all the lines, as more is only ever written behind it.
-- Assumes nothing.
use Rattle.std.proofs.Common.{◌≡◌, ℕ, Bool, true, false, List, [], ◌∷◌, ◌++◌, sym, refl, ap, ◌∙◌, subst, append_assoc, append-nil}
use Rattle.records.specs.Recording.{pick, item_at}
use Rattle.records.specs.declared.Item.{Item}
use Rattle.records.specs.declared.Item.TheVariants.{Whole as Whole-record, Unknown as Unknown-kind, Cut as Cut-record, End}
use Rattle.streaming.specs.Runner.{State, holding, start, judge, one, feed, closing, lines_of}
use Rattle.streaming.proofs.Feeding.{lines_by}
use Rattle.reading.specs.declared.Next.{Next}
use Rattle.reading.specs.declared.Next.TheVariants.{Goes, Whole, Cut, Unknown, Unread, Unwritten, Full}
use Rattle.reading.specs.Reading.{Says}

-- lines begin with the text
pub record Front (text lines : List ℕ) : Type 0 where
  pub rest : List ℕ
  pub is : lines ≡ text ++ rest

front_self : (text : List ℕ) → Front text text
front_self text = record { rest = []; is = sym (append-nil text) }

front_then : {a b c : List ℕ} → Front a b → Front b c → Front a c
front_then {a} {b} {c} f g = record {
  rest = f.rest ++ g.rest;
  is = g.is ∙ ap (λ (l : List ℕ). l ++ g.rest) f.is ∙ append_assoc a f.rest g.rest;
}

judged : (item : Item) (held text : List ℕ) (count : ℕ) → Front text (judge item held text count).text
judged (Whole-record kind place) held text count = record { rest = _; is = refl }
judged (Unknown-kind kind) held text count = record { rest = _; is = refl }
judged (Cut-record kind) held text count = front_self text
judged End held text count = front_self text

one_more : (state : State) (byte : ℕ) → Front state.text (one state byte).text
unfolding one
one_more state byte = go state.stopped
  where
    after : State
    after = judge (item_at (state.held ++ (byte ∷ [])) 0) (state.held ++ (byte ∷ [])) state.text state.count

    go : (stopped : Bool) → Front state.text (pick stopped state after).text
    go true = front_self state.text
    go false = judged (item_at (state.held ++ (byte ∷ [])) 0) (state.held ++ (byte ∷ [])) state.text state.count

pub fed_more : (state : State) (bytes : List ℕ) → Front state.text (feed state bytes).text
unfolding feed
fed_more state [] = front_self state.text
fed_more state (byte ∷ bytes) = front_then (one_more state byte) (fed_more (one state byte) bytes)

pub front_says :
    (next : Next) (input rest text : List ℕ) (count : ℕ) → Says next input rest text count → (next ≡ Unwritten → ⊥) → Front text (lines_of input)
front_says Goes input rest text count e n = record { rest = closing rest count; is = lines_by input e }
front_says Whole input rest text count e n = subst (Front text) (sym e.lines) (front_self text)
front_says Cut input rest text count e n = subst (Front text) (sym e.lines) (front_self text)
front_says Unknown input rest text count e n =
    subst (Front text) (sym (e []).lines ∙ ap lines_of (append-nil input)) (front_self text)
front_says Unread input rest text count e n = record { rest = closing rest count; is = lines_by input e }
front_says Unwritten input rest text count e n = absurd (n refl)
front_says Full input rest text count e n =
    front_then (subst (λ (z : State). Front text z.text) (sym e.2) (fed_more (holding [] text count) e.1))
    (record { rest = closing (feed start input).held (feed start input).count; is = refl })
