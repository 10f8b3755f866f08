-- Laws of the kinds and of what stands at a place.
-- Assumes nothing.
use mathlib.Core.Path.{◌≡◌, refl, sym, ap, subst, ◌∙◌}
use mathlib.Core.Bool.{Bool, true, false}
use mathlib.Core.List.{List}
use Prim.Native.Nat.{ℕ, zero, suc, ◌+◌, ◌-◌, ◌<◌, ◌≤◌}
use native.Mathlib.Omega.{arith}
use borrow.Author.Tests.{ltb-true, ltb-false, leb-true, leb-false, eqb-true, eqb-false, lt-ltb, le-ltb, le-leb, lt-leb, eq-eqb, ne_eqb}
use lib.Dec.{ltb, leb, eqb}
use lib.ListN.{length, get_or}
use Rattle.records.specs.Kinds.{symbols_of}
use Rattle.records.specs.Recording.{pick, past, item_at, step_at}
use Rattle.records.specs.declared.Step.{Step}
use Rattle.records.specs.declared.Item.TheVariants.{Whole, Unknown, Cut, End}

-- ---- kinds
-- any other kind is not known
pub symbols_none :
    (kind : ℕ) → (kind ≡ 1 → ⊥) → (kind ≡ 2 → ⊥) → (kind ≡ 3 → ⊥) → (kind ≡ 4 → ⊥) → (kind ≡ 5 → ⊥) → (kind ≡ 6 → ⊥) → (kind ≡ 7 → ⊥)
    → symbols_of kind ≡ 0
unfolding symbols_of
symbols_none zero a b c d e f g = refl
symbols_none (suc zero) a b c d e f g = absurd (a refl)
symbols_none (suc (suc zero)) a b c d e f g = absurd (b refl)
symbols_none (suc (suc (suc zero))) a b c d e f g = absurd (c refl)
symbols_none (suc (suc (suc (suc zero)))) a b c d e f g = absurd (d refl)
symbols_none (suc (suc (suc (suc (suc zero))))) a b c d e f g = absurd (e refl)
symbols_none (suc (suc (suc (suc (suc (suc zero)))))) a b c d e f g = absurd (f refl)
symbols_none (suc (suc (suc (suc (suc (suc (suc zero))))))) a b c d e f g = absurd (g refl)
symbols_none (suc (suc (suc (suc (suc (suc (suc (suc kind)))))))) a b c d e f g = refl

-- a record has at most 432 symbols
pub symbols_most : (kind : ℕ) → symbols_of kind ≤ 432
unfolding symbols_of
symbols_most zero = omega arith
symbols_most (suc zero) = omega arith
symbols_most (suc (suc zero)) = omega arith
symbols_most (suc (suc (suc zero))) = omega arith
symbols_most (suc (suc (suc (suc zero)))) = omega arith
symbols_most (suc (suc (suc (suc (suc zero))))) = omega arith
symbols_most (suc (suc (suc (suc (suc (suc zero)))))) = omega arith
symbols_most (suc (suc (suc (suc (suc (suc (suc zero))))))) = omega arith
symbols_most (suc (suc (suc (suc (suc (suc (suc (suc kind)))))))) = omega arith

-- and, if its kind is known, at least 30
pub symbols_least : (kind : ℕ) → (symbols_of kind ≡ 0 → ⊥) → 30 ≤ symbols_of kind
unfolding symbols_of
symbols_least zero n = absurd (n refl)
symbols_least (suc zero) n = omega arith
symbols_least (suc (suc zero)) n = omega arith
symbols_least (suc (suc (suc zero))) n = omega arith
symbols_least (suc (suc (suc (suc zero)))) n = omega arith
symbols_least (suc (suc (suc (suc (suc zero))))) n = omega arith
symbols_least (suc (suc (suc (suc (suc (suc zero)))))) n = omega arith
symbols_least (suc (suc (suc (suc (suc (suc (suc zero))))))) n = omega arith
symbols_least (suc (suc (suc (suc (suc (suc (suc (suc kind)))))))) n = absurd (n refl)

-- ---- what a reader does at a place
module _ (s : List ℕ) (at : ℕ) where
  pub step_end : length s ≤ at → ◌≡◌ {A = Step} (record { item = End; at = at }) (step_at s at)
  unfolding step_at
  step_end h = simp (le-leb (length s) at h)

  pub step_unknown : at < length s → symbols_of (get_or s at 0) ≡ 0 → ◌≡◌ {A = Step} (record { item = Unknown (get_or s at 0); at = at }) (step_at s at)
  unfolding step_at
  step_unknown h z = simp (lt-leb (length s) at h, eq-eqb (symbols_of (get_or s at 0)) 0 z)

  pub step_cut :
      at < length s → (symbols_of (get_or s at 0) ≡ 0 → ⊥) → length s < past (get_or s at 0) at
      → ◌≡◌ {A = Step} (record { item = Cut (get_or s at 0); at = at }) (step_at s at)
  unfolding step_at
  step_cut h z k =
      simp (lt-leb (length s) at h, ne_eqb (symbols_of (get_or s at 0)) 0 z, lt-ltb (length s) (past (get_or s at 0) at) k)

  pub step_whole :
      at < length s → (symbols_of (get_or s at 0) ≡ 0 → ⊥) → past (get_or s at 0) at ≤ length s
      → ◌≡◌ {A = Step} (record { item = Whole (get_or s at 0) at; at = past (get_or s at 0) at }) (step_at s at)
  unfolding step_at
  step_whole h z k =
      simp (lt-leb (length s) at h, ne_eqb (symbols_of (get_or s at 0)) 0 z, le-ltb (length s) (past (get_or s at 0) at) k)

  pub item_end : length s ≤ at → item_at s at ≡ End
  item_end h = ap (λ (t : Step). t.item) (sym (step_end h))

  pub item_unknown : at < length s → symbols_of (get_or s at 0) ≡ 0 → item_at s at ≡ Unknown (get_or s at 0)
  item_unknown h z = ap (λ (t : Step). t.item) (sym (step_unknown h z))

  pub item_cut : at < length s → (symbols_of (get_or s at 0) ≡ 0 → ⊥) → length s < past (get_or s at 0) at → item_at s at ≡ Cut (get_or s at 0)
  item_cut h z k = ap (λ (t : Step). t.item) (sym (step_cut h z k))

  pub item_whole : at < length s → (symbols_of (get_or s at 0) ≡ 0 → ⊥) → past (get_or s at 0) at ≤ length s → item_at s at ≡ Whole (get_or s at 0) at
  item_whole h z k = ap (λ (t : Step). t.item) (sym (step_whole h z k))

  -- a whole record, by the number of symbols that was looked up
  pub step_counted :
      {n : ℕ} → at < length s → n ≡ symbols_of (get_or s at 0) → (n ≡ 0 → ⊥) → 4 + n < length s - at
      → ◌≡◌ {A = Step} (record { item = Whole (get_or s at 0) at; at = at + 1 + (4 + n) }) (step_at s at)
  step_counted {n} h e z k =
      ap (λ (m : ℕ). record { item = Whole (get_or s at 0) at; at = at + 1 + (4 + m) }) e ∙ step_whole h (λ w. z (e ∙ w)) (omega (arith, e, k))

-- ---- and back: what is known of a place by its item
-- a whole record's kind is known and stands at its place, and its body is all there
pub record IsWhole (s : List ℕ) (at kind place : ℕ) : Type 0 where
  pub kind_is : kind ≡ get_or s at 0
  pub place_is : place ≡ at
  pub known : symbols_of kind ≡ 0 → ⊥
  pub within : past kind at ≤ length s

-- a kind that is not known stands inside
pub record IsUnknown (s : List ℕ) (at kind : ℕ) : Type 0 where
  pub kind_is : kind ≡ get_or s at 0
  pub unknown : symbols_of kind ≡ 0
  pub inside : at < length s

-- a record that is cut is of a known kind, and the bytes end before it does
pub record IsCut (s : List ℕ) (at kind : ℕ) : Type 0 where
  pub kind_is : kind ≡ get_or s at 0
  pub known : symbols_of kind ≡ 0 → ⊥
  pub inside : at < length s
  pub short : length s < past kind at

module _ (s : List ℕ) (at : ℕ) where
  abbrev told : Bool → Bool → Bool → Step
  told end unknown cut =
      pick end (record { item = End; at = at })
      (pick unknown (record { item = Unknown (get_or s at 0); at = at })
      (pick cut (record { item = Cut (get_or s at 0); at = at }) (record { item = Whole (get_or s at 0) at; at = past (get_or s at 0) at })))

  -- the three tests that tell what a reader does, with what each says
  by_tests :
      (A : Step → Type 0) → (length s ≤ at → A (record { item = End; at = at }))
      → (at < length s → symbols_of (get_or s at 0) ≡ 0 → A (record { item = Unknown (get_or s at 0); at = at }))
      → (at < length s → (symbols_of (get_or s at 0) ≡ 0 → ⊥) → past (get_or s at 0) at ≤ length s
      → A (record { item = Whole (get_or s at 0) at; at = past (get_or s at 0) at }))
      → (at < length s → (symbols_of (get_or s at 0) ≡ 0 → ⊥) → length s < past (get_or s at 0) at → A (record { item = Cut (get_or s at 0); at = at }))
      → A (step_at s at)
  unfolding step_at
  by_tests A end unknown whole cut =
      go (leb (length s) at) refl (eqb (symbols_of (get_or s at 0)) 0) refl (ltb (length s) (past (get_or s at 0) at)) refl
    where
      go :
          (a : Bool) → leb (length s) at ≡ a → (b : Bool) → eqb (symbols_of (get_or s at 0)) 0 ≡ b → (d : Bool)
          → ltb (length s) (past (get_or s at 0) at) ≡ d → A (told a b d)
      go true x b y d z = end (leb-true (length s) at x)
      go false x true y d z = unknown (leb-false (length s) at x) (eqb-true (symbols_of (get_or s at 0)) 0 y)
      go false x false y true z = cut (leb-false (length s) at x) (eqb-false (symbols_of (get_or s at 0)) 0 y) (ltb-true (length s) (past (get_or s at 0) at) z)
      go false x false y false z = whole (leb-false (length s) at x) (eqb-false (symbols_of (get_or s at 0)) 0 y) (ltb-false (length s) (past (get_or s at 0) at) z)

  pub is_whole : {kind place : ℕ} → item_at s at ≡ Whole kind place → IsWhole s at kind place
  is_whole {kind} {place} =
      by_tests (λ t. t.item ≡ Whole kind place → IsWhole s at kind place)
      (λ x q. let w : ◌≡◌ {A = ℕ} 0 1 = cc in absurd (omega arith))
      (λ x y q. let w : ◌≡◌ {A = ℕ} 0 1 = cc in absurd (omega arith))
      (λ x y z q.
      let k : kind ≡ get_or s at 0 = cc in
      record {
        kind_is = k;
        place_is = cc;
        known = λ w. y (ap symbols_of (sym k) ∙ w);
        within = subst (λ (n : ℕ). past n at ≤ length s) (sym k) z;
      })
      (λ x y z q. let w : ◌≡◌ {A = ℕ} 0 1 = cc in absurd (omega arith))

  pub is_unknown : {kind : ℕ} → item_at s at ≡ Unknown kind → IsUnknown s at kind
  is_unknown {kind} =
      by_tests (λ t. t.item ≡ Unknown kind → IsUnknown s at kind)
      (λ x q. let w : ◌≡◌ {A = ℕ} 0 1 = cc in absurd (omega arith))
      (λ x y q. let k : kind ≡ get_or s at 0 = cc in record { kind_is = k; unknown = ap symbols_of k ∙ y; inside = x })
      (λ x y z q. let w : ◌≡◌ {A = ℕ} 0 1 = cc in absurd (omega arith))
      (λ x y z q. let w : ◌≡◌ {A = ℕ} 0 1 = cc in absurd (omega arith))

  pub is_cut : {kind : ℕ} → item_at s at ≡ Cut kind → IsCut s at kind
  is_cut {kind} =
      by_tests (λ t. t.item ≡ Cut kind → IsCut s at kind)
      (λ x q. let w : ◌≡◌ {A = ℕ} 0 1 = cc in absurd (omega arith))
      (λ x y q. let w : ◌≡◌ {A = ℕ} 0 1 = cc in absurd (omega arith))
      (λ x y z q. let w : ◌≡◌ {A = ℕ} 0 1 = cc in absurd (omega arith))
      (λ x y z q.
      let k : kind ≡ get_or s at 0 = cc in
      record {
        kind_is = k;
        known = λ w. y (ap symbols_of (sym k) ∙ w);
        inside = x;
        short = subst (λ (n : ℕ). length s < past n at) (sym k) z;
      })

  pub is_end : item_at s at ≡ End → length s ≤ at
  is_end =
      by_tests (λ t. t.item ≡ End → length s ≤ at)
      (λ x q. x)
      (λ x y q. let w : ◌≡◌ {A = ℕ} 0 1 = cc in absurd (omega arith))
      (λ x y z q. let w : ◌≡◌ {A = ℕ} 0 1 = cc in absurd (omega arith))
      (λ x y z q. let w : ◌≡◌ {A = ℕ} 0 1 = cc in absurd (omega arith))

  -- a reader moves past a whole record
  pub step_past : {kind place : ℕ} → item_at s at ≡ Whole kind place → (step_at s at).at ≡ past kind at
  step_past {kind} {place} =
      by_tests (λ t. t.item ≡ Whole kind place → t.at ≡ past kind at)
      (λ x q. let w : ◌≡◌ {A = ℕ} 0 1 = cc in absurd (omega arith))
      (λ x y q. let w : ◌≡◌ {A = ℕ} 0 1 = cc in absurd (omega arith))
      (λ x y z q. let k : get_or s at 0 ≡ kind = cc in ap (λ (n : ℕ). past n at) k)
      (λ x y z q. let w : ◌≡◌ {A = ℕ} 0 1 = cc in absurd (omega arith))
