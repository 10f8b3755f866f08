-- Laws of bytes that come one after the other: they are gathered until they make a record.
-- Assumes nothing.
use mathlib.Core.Path.{◌≡◌, refl, sym, ap, ap₂, subst, ◌∙◌}
use mathlib.Core.Bool.{true}
use mathlib.Core.List.{List, [], ◌∷◌, ◌++◌}
use Prim.Native.Nat.{ℕ, zero, suc, ◌+◌, ◌≤◌, ◌<◌}
use native.Mathlib.Omega.{arith}
use lib.ListN.{length, take, drop, get_or}
use lib.Seq.{take-suc, take-length, length-take-le, get_or-take, take-take, take-nil}
use Rattle.records.specs.Kinds.{symbols_of, body_length}
use Rattle.records.specs.Recording.{item_at, body_at, past}
use Rattle.records.specs.declared.Item.{Item}
use Rattle.records.proofs.Laws.{item_unknown, item_whole, item_cut}
use Rattle.answers.specs.Answering.{answer_of}
use Rattle.lines.specs.Text.{ascii}
use Rattle.lines.specs.Lines.{answer_text, line}
use Rattle.streaming.specs.Runner.{State, holding, start, judge, one, feed, closing, lines_of}

pub feed_append : (state : State) (a b : List ℕ) → feed state (a ++ b) ≡ feed (feed state a) b
unfolding feed
feed_append state [] b = refl
feed_append state (x ∷ a) b = feed_append (one state x) a b

abbrev pub over : List ℕ → ℕ → State
over text count = record { held = []; text = text; count = count; stopped = true }

pub over_stays : (text : List ℕ) (count : ℕ) (s : List ℕ) → feed (over text count) s ≡ over text count
unfolding feed one
over_stays text count [] = refl
over_stays text count (x ∷ s) = over_stays text count s

-- the bytes after the first
tail : (n : ℕ) (p : List ℕ) → drop 1 (take (suc n) p) ≡ take n (drop 1 p)
tail n [] = sym (take-nil n)
tail n (x ∷ p) = refl

-- ---- the bytes p come, from nothing held
module _ (p text : List ℕ) (count : ℕ) where
  -- one byte more
  grow :
      (j : ℕ) → j < length p → feed (holding [] text count) (take j p) ≡ holding (take j p) text count
      → feed (holding [] text count) (take (suc j) p) ≡ judge (item_at (take (suc j) p) 0) (take (suc j) p) text count
  unfolding feed one
  grow j h e = rw (take-suc p j 0, feed_append, e)

  first : (j : ℕ) → get_or (take (suc j) p) 0 0 ≡ get_or p 0 0
  first j = get_or-take (suc j) p 0 0 (omega arith)

  gathers :
      (symbols_of (get_or p 0 0) ≡ 0 → ⊥) → (j : ℕ) → j < past (get_or p 0 0) 0 → j ≤ length p
      → feed (holding [] text count) (take j p) ≡ holding (take j p) text count
  unfolding feed
  gathers known zero h k = refl
  gathers known (suc j) h k =
      let long : length (take (suc j) p) ≡ suc j = length-take-le (suc j) p k in
      let same : symbols_of (get_or (take (suc j) p) 0 0) ≡ symbols_of (get_or p 0 0) = ap symbols_of (first j) in
      grow j (omega arith) (gathers known j (omega arith) (omega arith))
      ∙ ap (λ (i : Item). judge i (take (suc j) p) text count)
      (item_cut (take (suc j) p) 0 (omega arith) (λ w. known (sym same ∙ w)) (omega arith))

  pub gathers_whole :
      (symbols_of (get_or p 0 0) ≡ 0 → ⊥) → past (get_or p 0 0) 0 ≤ length p
      → feed (holding [] text count) (take (past (get_or p 0 0) 0) p)
      ≡ holding [] (text ++ line (count + 1) (get_or p 0 0) (answer_text (answer_of (get_or p 0 0) (body_at p (get_or p 0 0) 0)))) (count + 1)
  gathers_whole known h =
      let n : ℕ = body_length (get_or p 0 0) in
      let e : past (get_or p 0 0) 0 ≡ suc n = omega arith in
      let long : length (take (suc n) p) ≡ suc n = length-take-le (suc n) p (omega arith) in
      let same : symbols_of (get_or (take (suc n) p) 0 0) ≡ symbols_of (get_or p 0 0) = ap symbols_of (first n) in
      ap (λ (m : ℕ). feed (holding [] text count) (take m p)) e
      ∙ grow n (omega arith) (gathers known n (omega arith) (omega arith))
      ∙ ap (λ (i : Item). judge i (take (suc n) p) text count)
      (item_whole (take (suc n) p) 0 (omega arith) (λ w. known (sym same ∙ w)) (omega arith))
      ∙ ap₂ (λ (k : ℕ) (body : List ℕ). holding [] (text ++ line (count + 1) k (answer_text (answer_of k body))) (count + 1)) (first n)
      (body n refl)
    where
      body : (n : ℕ) → n ≡ body_length (get_or p 0 0) → body_at (take (suc n) p) (get_or (take (suc n) p) 0 0) 0 ≡ body_at p (get_or p 0 0) 0
      body n e =
          ap₂ (λ (k : ℕ) (l : List ℕ). take (body_length k) l) (first n) (tail n p)
          ∙ take-take (body_length (get_or p 0 0)) n (drop 1 p) (omega arith)

  pub gathers_short :
      (symbols_of (get_or p 0 0) ≡ 0 → ⊥) → length p < past (get_or p 0 0) 0 → feed (holding [] text count) p ≡ holding p text count
  gathers_short known h =
      subst (λ (l : List ℕ). feed (holding [] text count) l ≡ holding l text count) (take-length p) (gathers known (length p) h (omega arith))

  pub gathers_unknown :
      0 < length p → symbols_of (get_or p 0 0) ≡ 0
      → feed (holding [] text count) (take 1 p) ≡ over (text ++ line (count + 1) (get_or p 0 0) (ascii "unknown")) count
  unfolding feed
  gathers_unknown h z =
      let long : length (take 1 p) ≡ 1 = length-take-le 1 p h in
      grow 0 h refl
      ∙ ap (λ (i : Item). judge i (take 1 p) text count) (item_unknown (take 1 p) 0 (omega arith) (ap symbols_of (first 0) ∙ z))
      ∙ ap (λ (k : ℕ). over (text ++ line (count + 1) k (ascii "unknown")) count) (first 0)

-- ---- all the lines
pub lines_by : (input : List ℕ) {state : State} → feed start input ≡ state → lines_of input ≡ state.text ++ closing state.held state.count
lines_by input e = ap (λ (z : State). z.text ++ closing z.held z.count) e
