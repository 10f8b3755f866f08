-- Laws of what waits for more: nothing, or the beginning of a record.
-- Assumes nothing.
use mathlib.Core.Path.{◌≡◌, refl, sym, ap, subst, ◌∙◌}
use mathlib.Core.Bool.{Bool, true, false}
use mathlib.Core.List.{List, [], ◌∷◌, ◌++◌}
use Prim.Native.Nat.{ℕ, ◌+◌, ◌≤◌, ◌<◌}
use native.Mathlib.Omega.{arith}
use lib.ListN.{length, drop, get_or, length-drop}
use lib.Seq.{get_or-drop}
use Rattle.records.specs.Kinds.{symbols_of}
use Rattle.records.specs.Recording.{pick, step_at, item_at, past}
use Rattle.records.specs.declared.Item.{Item}
use Rattle.records.specs.declared.Item.TheVariants.{Whole, Unknown, Cut, End}
use Rattle.records.proofs.Laws.{symbols_most, item_end, item_cut, is_cut, is_end}
use Rattle.streaming.specs.Runner.{State, holding, judge, one, feed}
use Rattle.streaming.specs.Limits.{LONGEST}
use Rattle.streaming.specs.private.Stepping.{Waits}
use Rattle.streaming.proofs.Feeding.{gathers_short}

pub head : (s : List ℕ) (at : ℕ) → get_or (drop at s) 0 0 ≡ get_or s at 0
head s at = get_or-drop at s 0 0 ∙ ap (λ (m : ℕ). get_or s m 0) (omega arith)

-- it is less than the longest record
pub waits_less : (s : List ℕ) (at : ℕ) → Waits (item_at s at) → length s < at + LONGEST
waits_less s at w = go (item_at s at) refl w
  where
    go : (i : Item) → item_at s at ≡ i → Waits i → length s < at + LONGEST
    go (Whole kind place) e v = absurd v
    go (Unknown kind) e v = absurd v
    go (Cut kind) e v = let c = is_cut s at e in omega (arith, c.short, symbols_most kind)
    go End e v = omega (arith, is_end s at e)

-- it waits wherever it stands
pub waits_drop : (s : List ℕ) (at : ℕ) → Waits (item_at s at) → Waits (item_at (drop at s) 0)
waits_drop s at w = go (item_at s at) refl w
  where
    front : {i : Item} → item_at (drop at s) 0 ≡ i → Waits i → Waits (item_at (drop at s) 0)
    front e v = subst Waits (sym e) v

    go : (i : Item) → item_at s at ≡ i → Waits i → Waits (item_at (drop at s) 0)
    go (Whole kind place) e v = absurd v
    go (Unknown kind) e v = absurd v
    go (Cut kind) e v =
        let c = is_cut s at e in
        let same : kind ≡ get_or (drop at s) 0 0 = c.kind_is ∙ sym (head s at) in
        let left : length (drop at s) < past kind 0 = omega (arith, c.short, c.inside, length-drop at s) in
        front
        (item_cut (drop at s) 0 (omega (arith, c.inside, length-drop at s)) (λ z. c.known (ap symbols_of same ∙ z))
        (subst (λ (k : ℕ). length (drop at s) < past k 0) same left))
        tt
    go End e v = front (item_end (drop at s) 0 (omega (arith, is_end s at e, length-drop at s))) tt

-- the definition holds it
pub waits_held : (s text : List ℕ) (count : ℕ) → Waits (item_at s 0) → feed (holding [] text count) s ≡ holding s text count
unfolding feed
waits_held s text count w = go (item_at s 0) refl w
  where
    none : (l : List ℕ) → length l ≤ 0 → feed (holding [] text count) l ≡ holding l text count
    none [] h = refl
    none (x ∷ l) h = absurd (omega arith)

    go : (i : Item) → item_at s 0 ≡ i → Waits i → feed (holding [] text count) s ≡ holding s text count
    go (Whole kind place) e v = absurd v
    go (Unknown kind) e v = absurd v
    go (Cut kind) e v =
        let c = is_cut s 0 e in
        gathers_short s text count (λ z. c.known (ap symbols_of c.kind_is ∙ z)) (subst (λ (k : ℕ). length s < past k 0) c.kind_is c.short)
    go End e v = none s (is_end s 0 e)

-- ---- what is held waits for more
waits_nothing : Waits (item_at [] 0)
unfolding step_at
waits_nothing = tt

pub held_waits : (state : State) → Waits (item_at state.held 0) → (s : List ℕ) → Waits (item_at (feed state s).held 0)
unfolding feed one
held_waits state w [] = w
held_waits state w (x ∷ s) = held_waits (one state x) (next state.stopped (item_at (state.held ++ (x ∷ [])) 0) refl) s
  where
    next :
        (t : Bool) (i : Item) → item_at (state.held ++ (x ∷ [])) 0 ≡ i
        → Waits (item_at (pick t state (judge i (state.held ++ (x ∷ [])) state.text state.count)).held 0)
    next true i e = w
    next false (Whole kind place) e = waits_nothing
    next false (Unknown kind) e = waits_nothing
    next false (Cut kind) e = subst Waits (sym e) tt
    next false End e = subst Waits (sym e) tt

-- all that is held after any input
pub stands_waits : (input : List ℕ) {rest text : List ℕ} {count : ℕ} → feed (holding [] [] 0) input ≡ holding rest text count → Waits (item_at rest 0)
stands_waits input e = subst (λ (l : List ℕ). Waits (item_at l 0)) (ap (λ (z : State). z.held) e) (held_waits (holding [] [] 0) waits_nothing input)
