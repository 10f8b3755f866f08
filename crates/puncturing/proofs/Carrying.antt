-- Entries between their outputs and their mother places, both ways: the loops' one law.
-- Assumes nothing.
use mathlib.Core.Path.{◌≡◌, refl, ap, subst, ◌∙◌}
use mathlib.Core.List.{List}
use Prim.Native.Nat.{ℕ, ◌+◌, ◌≤◌, ◌<◌}
use native.Mathlib.Omega.{arith}
use lib.ListN.{length, get_or, length-set}
use Rattle.base.proofs.Lists.{write_none, write_more}
use Rattle.base.proofs.Moves.{scatter_none, scatter_more}
use Rattle.puncturing.specs.Puncturing.{kept_place, needed}
use Rattle.puncturing.specs.private.Ways.{Direction, puncturing, depuncturing, carried, Holds, put, Reaches, Carries}
use Rattle.puncturing.proofs.Modes.{kept_within}

-- ---- what is long enough
pub holds_front : (way : Direction) (mode n m src dst dst' : ℕ) → m ≤ n → dst ≡ dst' → Holds way mode n src dst → Holds way mode m src dst'
holds_front puncturing mode n m src dst dst' l e h = (λ i k. h.0 i (omega arith), omega (arith, h.1))
holds_front depuncturing mode n m src dst dst' l e h = (λ i k. omega (arith, h.0 i (omega arith)), omega (arith, h.1))

pub holds_reach : (way : Direction) (mode n src dst dst' j : ℕ) {place : ℕ} → place ≡ kept_place mode j → j < n → dst' ≡ dst → Holds way mode n src dst
    → Reaches way place j src dst'
holds_reach puncturing mode n src dst dst' j e l k h = (omega (arith, h.0 j l), omega (arith, h.1))
holds_reach depuncturing mode n src dst dst' j e l k h = (omega (arith, h.0 j l), omega (arith, h.1))

pub holds_puncturing : (mode n src dst : ℕ) → mode ≤ 6 → needed mode n ≤ src → n ≤ dst → Holds puncturing mode n src dst
holds_puncturing mode n src dst kind source target = (λ i l. omega (arith, kept_within mode kind n i l), target)

pub holds_depuncturing : (mode n src dst : ℕ) → mode ≤ 6 → n ≤ src → needed mode n ≤ dst → Holds depuncturing mode n src dst
holds_depuncturing mode n src dst kind source target = (λ i l. omega (arith, kept_within mode kind n i l), source)

-- ---- what is left
pub carried_none : (way : Direction) (mode : ℕ) (src dst : List ℕ) → dst ≡ carried way mode 0 src dst
carried_none puncturing mode src dst = write_none (λ j. get_or src (kept_place mode j) 0) dst
carried_none depuncturing mode src dst = scatter_none (kept_place mode) src dst

carried_more : (way : Direction) (mode n : ℕ) (src dst : List ℕ) → Holds way mode (n + 1) (length src) (length dst)
    → put way (kept_place mode n) n src (carried way mode n src dst) ≡ carried way mode (n + 1) src dst
carried_more puncturing mode n src dst h = write_more (λ j. get_or src (kept_place mode j) 0) n dst (omega (arith, h.1))
carried_more depuncturing mode n src dst h = scatter_more (kept_place mode) n src dst

pub put_length : (way : Direction) (place j : ℕ) (src dst : List ℕ) → length (put way place j src dst) ≡ length dst
put_length puncturing place j src dst = length-set dst j (get_or src place 0)
put_length depuncturing place j src dst = length-set dst place (get_or src j 0)

-- ---- the loops
-- before entry n, over the target that the loop began with
pub record Carrying (way : Direction) (mode from n : ℕ) (src dst dst' : List ℕ) : Type 0 where
  pub kept : length dst' ≡ length dst
  pub carries : Carries way mode from n src dst dst'

module _ {way : Direction} {mode from n : ℕ} {src dst dst' : List ℕ} (c : Carrying way mode from n src dst dst') where
  -- one entry more
  pub carrying_put : {m place : ℕ} {dst'' : List ℕ} → n + 1 ≡ m → place ≡ kept_place mode n → dst'' ≡ put way place n src dst' → Carrying way mode from m src dst dst''
  carrying_put {place} {dst''} e here put_there =
      let stored : dst'' ≡ put way (kept_place mode n) n src dst' = put_there ∙ ap (λ (x : ℕ). put way x n src dst') here in
      subst (λ (m : ℕ). Carrying way mode from m src dst dst'') e (record {
        kept = ap length stored ∙ put_length way (kept_place mode n) n src dst' ∙ c.kept;
        carries = λ old h k.
            stored
            ∙ ap (put way (kept_place mode n) n src) (c.carries old (holds_front way mode (n + 1) n (length src) (length old) (length old) (omega arith) refl h) k)
            ∙ carried_more way mode n src old h;
      })

  -- at the end
  pub carrying_at : {to : ℕ} → n ≡ to → Carries way mode from to src dst dst'
  carrying_at e = subst (λ (m : ℕ). Carries way mode from m src dst dst') e c.carries
