-- The class tables hold each position once, so that each order undoes the other.
-- Assumes nothing.
use mathlib.Core.Path.{◌≡◌, sym, ap, ◌∙◌}
use mathlib.Core.List.{List, [], ◌∷◌}
use mathlib.Core.Bool.{Bool}
use Prim.Native.Nat.{ℕ, suc, ◌+◌, ◌-◌, ◌*◌, ◌/◌, ◌%◌, ◌≤◌, ◌<◌}
use native.Mathlib.Omega.{arith}
use lib.Dec.{T, eqb, ltb, ltb→lt, eqb→eq}
use lib.ListN.{length, take}
use Rattle.base.specs.Refusal.{when}
use Rattle.base.specs.Bits.{both}
use Rattle.base.specs.Places.{written, Apart}
use Rattle.base.specs.private.Places.{Within}
use Rattle.base.proofs.Moves.{Onto, gather_scatter, scatter_gather}
use Rattle.base.proofs.Table.{at, both_left, both_right}
use Rattle.tch_reorder.specs.Order.{order, codec_place, channel_of, codec_of}

-- ---- the tables
-- how many entries of the list are p
abbrev pub times : ℕ → List ℕ → ℕ
times p [] = 0
times p (q ∷ l) = when (eqb p q) (suc (times p l)) (times p l)

once : ℕ → Bool
once p = eqb (times (p + 1) order) 1

once_at : (p : ℕ) → p < 137 → T (once p)
unfolding once order
once_at = at once 137 tt

-- each position from 1 to 137 stands in the tables once
pub each_once : (p : ℕ) → 1 ≤ p → p ≤ 137 → times p order ≡ 1
unfolding once
each_once p h k =
    let e : p ≡ p - 1 + 1 = omega arith in
    ap (λ (q : ℕ). times q order) e ∙ eqb→eq (times (p - 1 + 1) order) 1 (once_at (p - 1) (omega arith))

-- ---- the places
-- the place of the first p in the list, from 0
rank : ℕ → List ℕ → ℕ
rank p [] = 0
rank p (q ∷ l) = when (eqb p q) 0 (suc (rank p l))

-- where codec entry y stands in channel order, from 0
pub channel_place : ℕ → ℕ
channel_place y = 2 * rank (y % 137 + 1) order + y / 137

back : ℕ → Bool
back x = both (ltb (codec_place x) 274) (eqb (channel_place (codec_place x)) x)

forth : ℕ → Bool
forth y = both (ltb (channel_place y) 274) (eqb (codec_place (channel_place y)) y)

back_at : (x : ℕ) → x < 274 → T (back x)
unfolding back rank channel_place order codec_place
back_at = at back 274 tt

forth_at : (y : ℕ) → y < 274 → T (forth y)
unfolding forth rank channel_place order codec_place
forth_at = at forth 274 tt

pub codec_within : Within codec_place 274 274
unfolding back
codec_within x h = ltb→lt (codec_place x) 274 (both_left (ltb (codec_place x) 274) (eqb (channel_place (codec_place x)) x) (back_at x h))

back_same : (x : ℕ) → x < 274 → channel_place (codec_place x) ≡ x
unfolding back
back_same x h = eqb→eq (channel_place (codec_place x)) x (both_right (ltb (codec_place x) 274) (eqb (channel_place (codec_place x)) x) (back_at x h))

pub codec_apart : Apart codec_place 274
codec_apart i j h k e = sym (back_same i h) ∙ ap channel_place e ∙ back_same j k

pub codec_onto : Onto codec_place 274
unfolding forth
codec_onto y h =
    let t = forth_at y h in
    let p = ltb (channel_place y) 274 in
    let q = eqb (codec_place (channel_place y)) y in
    (channel_place y, ltb→lt (channel_place y) 274 (both_left p q t), eqb→eq (codec_place (channel_place y)) y (both_right p q t))

-- ---- each undoes the other
module _ (src dst : List ℕ) (long : 274 ≤ length src) (room : 274 ≤ length dst) where
  -- what was put into codec order is put back into channel order
  pub channel_of_codec : channel_of (codec_of src dst) ≡ take 274 src
  channel_of_codec = gather_scatter codec_place 274 src dst codec_apart (λ i l. omega (arith, codec_within i l)) long

  -- what was put into channel order is put back into codec order
  pub codec_of_channel : codec_of (channel_of src) dst ≡ written (take 274 src) dst
  codec_of_channel = scatter_gather codec_place 274 src dst codec_apart codec_within codec_onto long room
