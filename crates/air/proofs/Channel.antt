-- Demand 3, proved once for every channel: a decoder whose distance is the channel's decodes the word that wins on the air,
-- its count is the distance, and the word stays where symbols turn into what it sends.
-- Assumes nothing.
use mathlib.Core.Path.{◌≡◌, refl, sym, ap, ◌∙◌, subst}
use mathlib.Core.List.{List}
use mathlib.Core.Bool.{Bool, true, false, cond}
use mathlib.Core.Logic.{◌⊎◌, inl, inr, ⊎_elim}
use Prim.Native.Nat.{ℕ, ◌+◌, ◌*◌, ◌≤◌, ◌<◌}
use native.Mathlib.Omega.{arith}
use lib.Dec.{eqb}
use borrow.Author.Tests.{eqb-false}
use lib.ListN.{length}
use Rattle.base.specs.Places.{written}
use Rattle.trellis.specs.Nearest.{nearest, Candidate, Winner}
use Rattle.trellis.proofs.Winners.{nearest_same, nearest_wins, nearest_length, sole, keeps}
use Rattle.air.specs.Channel.{Channel, sum, distance_of, Turned, Undamaged}
use Rattle.air.specs.Demand.{HeardRight}
use Rattle.air.proofs.Sums.{sum_zero, sum_le, sum_add}

-- what the laws ask of a channel, over symbols that fit
pub record Lawful {Air A : Type 0} (c : Channel Air A) (Fits : A → Type 0) : Type 0 where
  -- bits are sent
  pub plain : (w : List ℕ) (j : ℕ) → j < c.carriers → c.sends w (c.place j) < 2
  -- no symbol speaks more for a bit than the bit as it arrives clear
  pub clearest : (r : A) (y z : ℕ) → Fits r → y < 2 → z < 2 → c.cost r z + c.cost (c.clear y) y ≤ c.cost (c.clear y) z + c.cost r y
  -- and that costs nothing
  pub free : (y : ℕ) → y < 2 → c.cost (c.clear y) y ≡ 0

-- a decoder's distance of a word of the right length is the channel's
abbrev pub Weighs : {Air A : Type 0} → Channel Air A → Air → (List ℕ → ℕ) → Type 0
Weighs c air far = (w : List ℕ) → length w ≡ c.bits → far w ≡ distance_of c air w

-- every symbol that carries a word fits
abbrev pub AllFit : {Air A : Type 0} → Channel Air A → (A → Type 0) → Air → Type 0
AllFit c Fits air = (j : ℕ) → j < c.carriers → Fits (c.symbol air (c.place j))

module _ {Air A : Type 0} (c : Channel Air A) where
  abbrev costs : Air → List ℕ → ℕ → ℕ
  costs air w j = c.cost (c.symbol air (c.place j)) (c.sends w (c.place j))

  -- ---- the winner, and its count
  pub wins_on_air : (air : Air) (far : List ℕ → ℕ) → Weighs c air far → Winner (distance_of c air) c.bits (nearest far c.bits)
  wins_on_air air far same =
      subst (Winner (distance_of c air) c.bits) (sym (nearest_same far (distance_of c air) c.bits (λ v k. same v k.len)))
      (nearest_wins (distance_of c air) c.bits)

  pub count_on_air : (air : Air) (far : List ℕ → ℕ) → Weighs c air far → far (nearest far c.bits) ≡ distance_of c air (nearest far c.bits)
  count_on_air air far same = same (nearest far c.bits) (nearest_length far c.bits)

  -- ---- undamaged, nothing disagrees
  pub undamaged_free : (Fits : A → Type 0) → Lawful c Fits → (air : Air) (w : List ℕ) → Undamaged c w air → distance_of c air w ≡ 0
  undamaged_free Fits law air w e =
      sum_zero (costs air w) c.carriers (λ j h. ap (λ (r : A). c.cost r (c.sends w (c.place j))) (e j h) ∙ law.free (c.sends w (c.place j)) (law.plain w j h))

  -- ---- symbols that change toward what the word sends leave it
  -- at no place that carries w does a bit gain on the one that w sends
  abbrev pub Toward : List ℕ → Air → Air → Type 0
  Toward w air other =
      (j : ℕ) → j < c.carriers → (z : ℕ) → z < 2
      → c.cost (c.symbol air (c.place j)) z + c.cost (c.symbol other (c.place j)) (c.sends w (c.place j))
      ≤ c.cost (c.symbol other (c.place j)) z + c.cost (c.symbol air (c.place j)) (c.sends w (c.place j))

  pub turned_toward : (Fits : A → Type 0) → Lawful c Fits → (air other : Air) → AllFit c Fits air → (w : List ℕ) → Turned c w air other → Toward w air other
  turned_toward Fits law air other fits w turned j h z k = ⊎_elim kept became (turned j h)
    where
      r : A
      r = c.symbol air (c.place j)

      y : ℕ
      y = c.sends w (c.place j)

      Gains : A → Type 0
      Gains s = c.cost r z + c.cost s y ≤ c.cost s z + c.cost r y

      kept : c.symbol other (c.place j) ≡ r → Gains (c.symbol other (c.place j))
      kept e = subst Gains (sym e) (omega arith)

      became : c.symbol other (c.place j) ≡ c.clear y → Gains (c.symbol other (c.place j))
      became e = subst Gains (sym e) (law.clearest r y z (fits j h) (law.plain w j h) k)

  no_gain : (Fits : A → Type 0) → Lawful c Fits → (air other : Air) (w v : List ℕ) → Toward w air other
      → distance_of c air v + distance_of c other w ≤ distance_of c other v + distance_of c air w
  no_gain Fits law air other w v toward =
      omega (
        arith,
        sum_le (λ j. costs air v j + costs other w j) (λ j. costs other v j + costs air w j) c.carriers (λ j h. toward j h (c.sends v (c.place j)) (law.plain v j h)),
        sum_add (costs air v) (costs other w) c.carriers,
        sum_add (costs other v) (costs air w) c.carriers,
      )

  pub steady_on_air : (Fits : A → Type 0) → Lawful c Fits → (air other : Air) (far farther : List ℕ → ℕ) → Weighs c air far → Weighs c other farther
      → Toward (nearest far c.bits) air other → nearest farther c.bits ≡ nearest far c.bits
  steady_on_air Fits law air other far farther same same' toward =
      keeps far farther c.bits
      (λ v k. omega (
        arith,
        no_gain Fits law air other (nearest far c.bits) v toward,
        same v k.len,
        same' v k.len,
        count_on_air air far same,
        same' (nearest far c.bits) (nearest_length far c.bits),
      ))

  -- ---- damage that is undone
  -- what the symbols weigh where two words send different bits
  abbrev pub between : (A → ℕ) → Air → List ℕ → List ℕ → ℕ
  between strength air w v =
      sum (λ j. cond (eqb (c.sends w (c.place j)) (c.sends v (c.place j))) 0 (strength (c.symbol air (c.place j)))) c.carriers

  -- a word that every other differs from in more than twice what it costs is decoded
  pub undone_on_air : (Fits : A → Type 0) → Lawful c Fits → (strength : A → ℕ)
      → ((r : A) (y z : ℕ) → y < 2 → z < 2 → (y ≡ z → ⊥) → strength r ≤ c.cost r y + c.cost r z)
      → (air : Air) (far : List ℕ → ℕ) → Weighs c air far → (w : List ℕ) → Candidate c.bits w
      → ((v : List ℕ) → Candidate c.bits v → (v ≡ w) ⊎ (2 * distance_of c air w < between strength air w v)) → nearest far c.bits ≡ w
  undone_on_air Fits law strength spans air far same w k h =
      sole far c.bits w k (λ v l. ⊎_elim inl (λ less. inr (omega (arith, less, same w k.len, same v l.len, triangle v))) (h v l))
    where
      at : (v : List ℕ) (j : ℕ) → j < c.carriers
          → cond (eqb (c.sends w (c.place j)) (c.sends v (c.place j))) 0 (strength (c.symbol air (c.place j))) ≤ costs air w j + costs air v j
      at v j p = go (eqb (c.sends w (c.place j)) (c.sends v (c.place j))) refl
        where
          go : (t : Bool) → eqb (c.sends w (c.place j)) (c.sends v (c.place j)) ≡ t → cond t 0 (strength (c.symbol air (c.place j))) ≤ costs air w j + costs air v j
          go true e = omega arith
          go false e =
              spans (c.symbol air (c.place j)) (c.sends w (c.place j)) (c.sends v (c.place j)) (law.plain w j p) (law.plain v j p)
              (eqb-false (c.sends w (c.place j)) (c.sends v (c.place j)) e)

      triangle : (v : List ℕ) → between strength air w v ≤ distance_of c air w + distance_of c air v
      triangle v =
          omega (
            arith,
            sum_le (λ j. cond (eqb (c.sends w (c.place j)) (c.sends v (c.place j))) 0 (strength (c.symbol air (c.place j)))) (λ j. costs air w j + costs air v j) c.carriers (at v),
            sum_add (costs air w) (costs air v) c.carriers,
          )

-- ---- demand 3
-- what an entry's calls show, where they are not refused: `far` is the distance by which the entry decodes
pub record Decoder {Air A : Type 0} (c : Channel Air A) (Fits : A → Type 0) (Call : Air → ℕ → List ℕ → List ℕ → Type 0)
    (holds : Air → List ℕ → List ℕ) (far : Air → List ℕ → ℕ) : Type 0 where
  pub lawful : Lawful c Fits
  pub fits : (air : Air) (count : ℕ) (target target' : List ℕ) → Call air count target target' → AllFit c Fits air
  pub weighs : (air : Air) (count : ℕ) (target target' : List ℕ) → Call air count target target' → Weighs c air (far air)
  pub writes : (air : Air) (count : ℕ) (target target' : List ℕ) → Call air count target target'
      → target' ≡ written (holds air (nearest (far air) c.bits)) target
  pub counts : (air : Air) (count : ℕ) (target target' : List ℕ) → Call air count target target' → count ≡ far air (nearest (far air) c.bits)

pub heard_right : {Air A : Type 0} {c : Channel Air A} {Fits : A → Type 0} {Call : Air → ℕ → List ℕ → List ℕ → Type 0}
    {holds : Air → List ℕ → List ℕ} {far : Air → List ℕ → ℕ} → Decoder c Fits Call holds far
    → (air : Air) (count : ℕ) (target target' : List ℕ) → Call air count target target' → HeardRight c Call holds air count target target'
heard_right {Air} {A} {c} {Fits} {Call} {holds} {far} d air count target target' call =
    record {
      word = nearest (far air) c.bits;
      writes = d.writes air count target target' call;
      wins = wins_on_air c air (far air) weighs;
      counts = d.counts air count target target' call ∙ count_on_air c air (far air) weighs;
      stays = λ other reported before after turned again. d.writes other reported before after again
          ∙ ap (λ (w : List ℕ). written (holds other w) before)
          (steady_on_air c Fits d.lawful air other (far air) (far other) weighs (d.weighs other reported before after again)
          (turned_toward c Fits d.lawful air other (d.fits air count target target' call) (nearest (far air) c.bits) turned));
    }
  where
    weighs : Weighs c air (far air)
    weighs = d.weighs air count target target' call
