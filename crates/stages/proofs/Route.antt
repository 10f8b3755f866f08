-- One channel inside another: what a decoder is given, and the air that it came from.
-- Each symbol that carries a word on the air is undone into one of those that the decoder is given; the decoder's others cost nothing.
-- Assumes nothing.
use mathlib.Core.Path.{◌≡◌, sym, ap, ◌∙◌, subst}
use mathlib.Core.List.{List}
use Prim.Native.Nat.{ℕ, ◌<◌}
use lib.ListN.{length}
use Rattle.base.specs.Places.{Apart}
use Rattle.base.specs.private.Places.{Within}
use Rattle.air.specs.Channel.{Channel, distance_of, Undamaged}
use Rattle.air.proofs.Sums.{sum_same, sum_places}

-- none of the first k places is x
abbrev pub Missed : (ℕ → ℕ) → ℕ → ℕ → Type 0
Missed p k x = (j : ℕ) → j < k → p j ≡ x → ⊥

-- the inner channel's carrier at j is the air's carrier j; `undo` takes a symbol of the air to what the decoder is given
pub record Route {In Air A : Type 0} (inner : Channel In A) (outer : Channel Air A) (at : ℕ → ℕ) (undo : A → ℕ → A) (mother : In) (air : Air) : Type 0 where
  pub apart : Apart at outer.carriers
  pub within : Within at outer.carriers inner.carriers
  pub given : (j : ℕ) → j < outer.carriers → inner.symbol mother (inner.place (at j)) ≡ undo (outer.symbol air (outer.place j)) j
  -- a symbol undone costs what it cost on the air
  pub undone : (w : List ℕ) → length w ≡ outer.bits → (j : ℕ) → j < outer.carriers → (r : A)
      → inner.cost (undo r j) (inner.sends w (inner.place (at j))) ≡ outer.cost r (outer.sends w (outer.place j))
  pub missed : (x : ℕ) → x < inner.carriers → Missed at outer.carriers x → (y : ℕ) → inner.cost (inner.symbol mother (inner.place x)) y ≡ 0

module _ {In Air A : Type 0} {inner : Channel In A} {outer : Channel Air A} {at : ℕ → ℕ} {undo : A → ℕ → A} {mother : In} {air : Air}
    (r : Route inner outer at undo mother air) where
  -- the two distances of a word are one
  pub route_distance : (w : List ℕ) → length w ≡ outer.bits → distance_of inner mother w ≡ distance_of outer air w
  route_distance w e =
      sum_places at outer.carriers inner.carriers (λ x. inner.cost (inner.symbol mother (inner.place x)) (inner.sends w (inner.place x))) r.apart r.within
      (λ x h f. r.missed x h f (inner.sends w (inner.place x)))
      ∙ sum_same (λ j. inner.cost (inner.symbol mother (inner.place (at j))) (inner.sends w (inner.place (at j)))) (λ j. outer.cost (outer.symbol air (outer.place j)) (outer.sends w (outer.place j))) outer.carriers
      (λ j h. ap (λ (s : A). inner.cost s (inner.sends w (inner.place (at j)))) (r.given j h) ∙ r.undone w e j h (outer.symbol air (outer.place j)))

  -- where nothing was damaged, the decoder is given what the clear symbols are undone into
  pub route_known : (Known : A → Type 0) (w : List ℕ) → Undamaged outer w air
      → ((j : ℕ) → j < outer.carriers → Known (undo (outer.clear (outer.sends w (outer.place j))) j))
      → (x : ℕ) → (j : ℕ) × (j < outer.carriers) × (at j ≡ x) → Known (inner.symbol mother (inner.place x))
  route_known Known w clean knows x f =
      subst Known
      (sym (ap (λ (x : ℕ). inner.symbol mother (inner.place x)) (sym f.2) ∙ r.given f.0 f.1 ∙ ap (λ (s : A). undo s f.0) (clean f.0 f.1)))
      (knows f.0 f.1)
