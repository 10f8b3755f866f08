-- Signed numbers in terms that `omega` reads: z is `up z` less `down z`. That z is n less k is the equation `up z + k ≡ n + down z`.
-- Assumes nothing.
use mathlib.Core.Path.{◌≡◌, refl, ap}
use mathlib.Core.Bool.{Bool, true, false, cond}
use Prim.Native.Nat.{ℕ, zero, suc, ◌+◌, ◌-◌, ◌≤◌, ◌<◌}
use native.Mathlib.Omega.{arith}
use borrow.Author.Tests.{ltb-true, ltb-false}
use lib.Dec.{ltb}
use lib.IntN.{ℤ, pos, negsuc, neg_ℤ, sub_ℕ, ◌+ℤ◌, ◌-ℤ◌}
use lib.Signed.{mag, lt_z}
use mir.Syntax.{w16}
use mir.Val.{SFits, to_z, of_z}
use mir.Facts.{to_z-of_z}
use Rattle.viterbi.specs.private.Scores.{up, down}

-- ---- sums and differences
sub_parts : (a b : ℕ) → up (sub_ℕ a b) + b ≡ a + down (sub_ℕ a b)
sub_parts a b = go (ltb a b) refl
  where
    go : (t : Bool) → ltb a b ≡ t → up (cond t (negsuc (b - suc a)) (pos (a - b))) + b ≡ a + down (cond t (negsuc (b - suc a)) (pos (a - b)))
    go true e = omega (arith, ltb-true a b e)
    go false e = omega (arith, ltb-false a b e)

pub add_parts : (x y : ℤ) → up (x +ℤ y) + (down x + down y) ≡ (up x + up y) + down (x +ℤ y)
add_parts (pos a) (pos b) = omega arith
add_parts (pos a) (negsuc b) = omega (arith, sub_parts a (suc b))
add_parts (negsuc a) (pos b) = omega (arith, sub_parts b (suc a))
add_parts (negsuc a) (negsuc b) = omega arith

pub neg_up : (x : ℤ) → up (neg_ℤ x) ≡ down x
neg_up (pos zero) = refl
neg_up (pos (suc n)) = refl
neg_up (negsuc n) = refl

pub neg_down : (x : ℤ) → down (neg_ℤ x) ≡ up x
neg_down (pos zero) = refl
neg_down (pos (suc n)) = refl
neg_down (negsuc n) = refl

pub take_parts : (x y : ℤ) → up (x -ℤ y) + (down x + up y) ≡ (up x + down y) + down (x -ℤ y)
take_parts x y = omega (arith, add_parts x (neg_ℤ y), neg_up y, neg_down y)

-- one difference, one number
pub same_parts : (x y : ℤ) (n k : ℕ) → up x + k ≡ n + down x → up y + k ≡ n + down y → x ≡ y
same_parts (pos a) (pos b) n k p q = ap pos (omega arith)
same_parts (pos a) (negsuc b) n k p q = absurd (omega arith)
same_parts (negsuc a) (pos b) n k p q = absurd (omega arith)
same_parts (negsuc a) (negsuc b) n k p q = ap negsuc (omega arith)

-- ---- the order
no : {A : Type 0} → true ≡ false → A
no q = absurd (omega (arith, ap {B = ℕ} (λ (t : Bool). cond t 1 0) q))

pub less_yes : (x y : ℤ) → lt_z x y ≡ true → up x + down y < up y + down x
less_yes (pos a) (pos b) e = omega (arith, ltb-true a b e)
less_yes (pos a) (negsuc b) e = no (mathlib.Core.Path.sym e)
less_yes (negsuc a) (pos b) e = omega arith
less_yes (negsuc a) (negsuc b) e = omega (arith, ltb-true b a e)

pub less_no : (x y : ℤ) → lt_z x y ≡ false → up y + down x ≤ up x + down y
less_no (pos a) (pos b) e = omega (arith, ltb-false a b e)
less_no (pos a) (negsuc b) e = omega arith
less_no (negsuc a) (pos b) e = no e
less_no (negsuc a) (negsuc b) e = omega (arith, ltb-false b a e)

-- ---- bounds: `mag z < h` says that z is at least - h and below h
pub mag_up : (z : ℤ) (h : ℕ) → mag z < h → up z < h
mag_up (pos n) h p = p
mag_up (negsuc n) h p = omega arith

pub mag_down : (z : ℤ) (h : ℕ) → mag z < h → down z ≤ h
mag_down (pos n) h p = omega arith
mag_down (negsuc n) h p = p

-- z is n less k, and the two are near
pub mag_of : (z : ℤ) (h n k : ℕ) → up z + k ≡ n + down z → n < k + h → k ≤ n + h → mag z < h
mag_of (pos a) h n k e p q = omega arith
mag_of (negsuc a) h n k e p q = omega arith

pub mag_add : (x y : ℤ) (h k : ℕ) → mag x < h → mag y < k → mag (x +ℤ y) < h + k
mag_add x y h k p q =
    mag_of (x +ℤ y) (h + k) (up x + up y) (down x + down y) (add_parts x y) (omega (arith, mag_up x h p, mag_up y k q))
    (omega (arith, mag_down x h p, mag_down y k q))

pub mag_take : (x y : ℤ) (h k : ℕ) → mag x < h → mag y < k → mag (x -ℤ y) < h + k
mag_take x y h k p q =
    mag_of (x -ℤ y) (h + k) (up x + down y) (down x + up y) (take_parts x y) (omega (arith, mag_up x h p, mag_down y k q))
    (omega (arith, mag_down x h p, mag_up y k q))

-- ---- what an i16 holds and reads back
pub fits : (z : ℤ) (h : ℕ) → mag z < h → h ≤ 32768 → SFits w16 z
fits z h p q = record { sfits = omega arith }

pub reads : (z : ℤ) (h : ℕ) → mag z < h → h ≤ 32768 → to_z w16 (of_z w16 z) ≡ z
reads z h p q = to_z-of_z (fits z h p q)
