-- The better of two ways into a state, by signed scores.
-- Assumes nothing.
use mathlib.Core.Path.{◌≡◌, refl, sym, ap, ap₂, ◌∙◌, subst⁻¹}
use mathlib.Core.List.{List}
use mathlib.Core.Bool.{Bool, true, false, cond}
use Prim.Native.Nat.{ℕ, ◌+◌, ◌/◌, ◌<◌}
use native.Mathlib.Omega.{arith}
use borrow.Author.Tests.{lt-ltb, le-ltb}
use lib.Dec.{ltb}
use lib.IntN.{ℤ, pos, ◌+ℤ◌, ◌-ℤ◌}
use lib.Signed.{mag, lt_z}
use lib.ListN.{get_or}
use mir.Syntax.{w16}
use mir.Val.{SFits, to_z, of_z}
use mir.Facts.{to_z-of_z}
use Rattle.trellis.specs.Trellis.{lesser, taken}
use Rattle.viterbi.specs.private.Scores.{Stands, Small, Holds, Marks, earlier, first_way, second_way, better, oldest, Turned}
use Rattle.viterbi.proofs.Signed.{add_parts, take_parts, less_yes, less_no, mag_add, mag_take, fits, reads}

-- ---- in i16
module _ (x b : ℤ) (hx : mag x < 30000) (hb : mag b < 100) where
  rx : to_z w16 (of_z w16 x) ≡ x
  rx = reads x 30000 hx (omega arith)

  rb : to_z w16 (of_z w16 b) ≡ b
  rb = reads b 100 hb (omega arith)

  first_fits : SFits w16 (to_z w16 (of_z w16 x) +ℤ to_z w16 (of_z w16 b))
  first_fits = rw (rx, rb) (fits (x +ℤ b) 30100 (mag_add x b 30000 100 hx hb) (omega arith))

  first_is : to_z w16 (of_z w16 (to_z w16 (of_z w16 x) +ℤ to_z w16 (of_z w16 b))) ≡ x +ℤ b
  first_is = to_z-of_z first_fits ∙ ap₂ ◌+ℤ◌ rx rb

  second_fits : SFits w16 (to_z w16 (of_z w16 x) -ℤ to_z w16 (of_z w16 b))
  second_fits = rw (rx, rb) (fits (x -ℤ b) 30100 (mag_take x b 30000 100 hx hb) (omega arith))

  second_is : to_z w16 (of_z w16 (to_z w16 (of_z w16 x) -ℤ to_z w16 (of_z w16 b))) ≡ x -ℤ b
  second_is = to_z-of_z second_fits ∙ ap₂ ◌-ℤ◌ rx rb

  first_small : mag (x +ℤ b) < 31000
  first_small = omega (arith, mag_add x b 30000 100 hx hb)

  second_small : mag (x -ℤ b) < 31000
  second_small = omega (arith, mag_take x b 30000 100 hx hb)

-- the same at each state
module _ (m b : List ℤ) (hm : Small 30000 m) (hb : Small 100 b) (s : ℕ) (hs : s < 16) where
  place : s / 2 ≡ earlier 0 s
  place = omega arith

  pub first_way_fits : SFits w16 (to_z w16 (of_z w16 (get_or m (s / 2) (pos 0))) +ℤ to_z w16 (of_z w16 (get_or b s (pos 0))))
  first_way_fits = first_fits (get_or m (s / 2) (pos 0)) (get_or b s (pos 0)) (hm (s / 2) (omega arith)) (hb s hs)

  pub first_way_is : to_z w16 (of_z w16 (to_z w16 (of_z w16 (get_or m (s / 2) (pos 0))) +ℤ to_z w16 (of_z w16 (get_or b s (pos 0))))) ≡ first_way m b s
  first_way_is =
      first_is (get_or m (s / 2) (pos 0)) (get_or b s (pos 0)) (hm (s / 2) (omega arith)) (hb s hs)
      ∙ ap (λ (i : ℕ). get_or m i (pos 0) +ℤ get_or b s (pos 0)) place

  pub second_way_fits : SFits w16 (to_z w16 (of_z w16 (get_or m (s / 2 + 8) (pos 0))) -ℤ to_z w16 (of_z w16 (get_or b s (pos 0))))
  second_way_fits = second_fits (get_or m (s / 2 + 8) (pos 0)) (get_or b s (pos 0)) (hm (s / 2 + 8) (omega arith)) (hb s hs)

  pub second_way_is : to_z w16 (of_z w16 (to_z w16 (of_z w16 (get_or m (s / 2 + 8) (pos 0))) -ℤ to_z w16 (of_z w16 (get_or b s (pos 0))))) ≡ second_way m b s
  second_way_is = second_is (get_or m (s / 2 + 8) (pos 0)) (get_or b s (pos 0)) (hm (s / 2 + 8) (omega arith)) (hb s hs)

  first_way_small : mag (first_way m b s) < 31000
  first_way_small = first_small (get_or m (earlier 0 s) (pos 0)) (get_or b s (pos 0)) (hm (earlier 0 s) (omega arith)) (hb s hs)

  second_way_small : mag (second_way m b s) < 31000
  second_way_small = second_small (get_or m (earlier 1 s) (pos 0)) (get_or b s (pos 0)) (hm (earlier 1 s) (omega arith)) (hb s hs)

-- ---- the smaller of two
module _ (p q : ℤ) (fp : SFits w16 p) (fq : SFits w16 q) where
  rp : to_z w16 (of_z w16 p) ≡ p
  rp = to_z-of_z fp

  rq : to_z w16 (of_z w16 q) ≡ q
  rq = to_z-of_z fq

  test : (t : Bool) → lt_z (to_z w16 (of_z w16 q)) (to_z w16 (of_z w16 p)) ≡ t → lt_z q p ≡ t
  test t e = sym (ap₂ lt_z rq rp) ∙ e

  pub takes_second : (z : ℤ) → z ≡ to_z w16 (of_z w16 q) → lt_z (to_z w16 (of_z w16 q)) (to_z w16 (of_z w16 p)) ≡ true → z ≡ better p q
  takes_second z e t = e ∙ rq ∙ sym (ap (λ (b : Bool). cond b q p) (test true t))

  pub takes_first : (z : ℤ) → z ≡ to_z w16 (of_z w16 p) → lt_z (to_z w16 (of_z w16 q)) (to_z w16 (of_z w16 p)) ≡ false → z ≡ better p q
  takes_first z e t = e ∙ rp ∙ sym (ap (λ (b : Bool). cond b q p) (test false t))

  pub marks_second : lt_z (to_z w16 (of_z w16 q)) (to_z w16 (of_z w16 p)) ≡ true → 1 ≡ oldest p q
  marks_second t = sym (ap (λ (b : Bool). cond {A = ℕ} b 1 0) (test true t))

  pub marks_first : lt_z (to_z w16 (of_z w16 q)) (to_z w16 (of_z w16 p)) ≡ false → 0 ≡ oldest p q
  marks_first t = sym (ap (λ (b : Bool). cond {A = ℕ} b 1 0) (test false t))

pub oldest_lt : (p q : ℤ) → oldest p q < 2
oldest_lt p q = go (lt_z q p)
  where
    go : (t : Bool) → cond t 1 0 < 2
    go true = omega arith
    go false = omega arith

-- ---- the arrays of a step
pub small_reads : (m : List ℤ) → Small 31000 m → (s : ℕ) → s < 16 → to_z w16 (of_z w16 (get_or m s (pos 0))) ≡ get_or m s (pos 0)
small_reads m h s l = reads (get_or m s (pos 0)) 31000 (h s l) (omega arith)

pub first_ways_small : (m b p : List ℤ) → Small 30000 m → Small 100 b → Holds (first_way m b) p → Small 31000 p
first_ways_small m b p hm hb h s l = subst⁻¹ (λ (z : ℤ). mag z < 31000) (h s l) (first_way_small m b hm hb s l)

pub second_ways_small : (m b q : List ℤ) → Small 30000 m → Small 100 b → Holds (second_way m b) q → Small 31000 q
second_ways_small m b q hm hb h s l = subst⁻¹ (λ (z : ℤ). mag z < 31000) (h s l) (second_way_small m b hm hb s l)

pub ways_turn : (m b p q new : List ℤ) (taken : ℕ) → Holds (first_way m b) p → Holds (second_way m b) q
    → Holds (λ s. better (get_or p s (pos 0)) (get_or q s (pos 0))) new → Marks (λ s. oldest (get_or p s (pos 0)) (get_or q s (pos 0))) taken → Turned m b new taken
ways_turn m b p q new taken hp hq hn ht =
    record { scores = λ s l. hn s l ∙ ap₂ better (hp s l) (hq s l); bits = λ s l. ht s l ∙ ap₂ oldest (hp s l) (hq s l) }

-- ---- as the costs that the scores stand for
pub way_stands : (p q b : ℤ) (m n c d k e : ℕ) → Stands p m k → Stands q n k → Stands b c e → c + d ≡ e
    → Stands (better (p +ℤ b) (q -ℤ b)) (lesser (m + c) (n + d)) (k + e) × (oldest (p +ℤ b) (q -ℤ b) ≡ taken (m + c) (n + d))
way_stands p q b m n c d k e sp sq sb h = go (lt_z (q -ℤ b) (p +ℤ b)) refl
  where
    first : Stands (p +ℤ b) (m + c) (k + e)
    first = omega (arith, add_parts p b)

    second : Stands (q -ℤ b) (n + d) (k + e)
    second = omega (arith, take_parts q b)

    go : (t : Bool) → lt_z (q -ℤ b) (p +ℤ b) ≡ t
        → Stands (cond t (q -ℤ b) (p +ℤ b)) (lesser (m + c) (n + d)) (k + e) × (cond t 1 0 ≡ taken (m + c) (n + d))
    go true f =
        let l : ltb (n + d) (m + c) ≡ true = lt-ltb (n + d) (m + c) (omega (arith, less_yes (q -ℤ b) (p +ℤ b) f, first, second)) in
        rw l (second, refl)
    go false f =
        let l : ltb (n + d) (m + c) ≡ false = le-ltb (n + d) (m + c) (omega (arith, less_no (q -ℤ b) (p +ℤ b) f, first, second)) in
        rw l (first, refl)

-- the choice at state j, of the two ways into it
abbrev pub choice_at : List ℤ → List ℤ → ℕ → ℕ
choice_at p q j = oldest (get_or p j (pos 0)) (get_or q j (pos 0))

pub choice_at_lt : (p q : List ℤ) (j : ℕ) → choice_at p q j < 2
choice_at_lt p q j = oldest_lt (get_or p j (pos 0)) (get_or q j (pos 0))
