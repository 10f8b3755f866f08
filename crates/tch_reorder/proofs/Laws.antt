-- What the refusal says of the lengths, and what the loops over the class table leave, two entries a turn.
-- Assumes nothing.
use mathlib.Core.Path.{◌≡◌, sym, ap, ap₂, ◌∙◌}
use mathlib.Core.List.{List}
use mathlib.Core.Bool.{Bool}
use Prim.Native.Nat.{ℕ, ◌+◌, ◌-◌, ◌*◌, ◌/◌, ◌%◌, ◌≤◌, ◌<◌}
use native.Mathlib.Omega.{arith}
use lib.Dec.{T, ltb, ltb→lt}
use lib.ListN.{length, get_or, set}
use Rattle.base.specs.Bits.{both}
use Rattle.base.specs.Places.{tabulate, written, gather, scatter}
use Rattle.base.proofs.Lists.{write_more}
use Rattle.base.proofs.Moves.{scatter_more}
use Rattle.base.proofs.Table.{at, both_left, both_right}
use Rattle.tch_reorder.specs.Order.{order, codec_place}

-- ---- a position of the table
positioned : ℕ → Bool
positioned i = both (ltb 0 (get_or order i 0)) (ltb (get_or order i 0) 138)

positioned_at : (i : ℕ) → i < 137 → T (positioned i)
unfolding positioned order
positioned_at = at positioned 137 tt

pub position_low : (i : ℕ) → i < 137 → 1 ≤ get_or order i 0
unfolding positioned
position_low i h = ltb→lt 0 (get_or order i 0) (both_left (ltb 0 (get_or order i 0)) (ltb (get_or order i 0) 138) (positioned_at i h))

pub position_high : (i : ℕ) → i < 137 → get_or order i 0 < 138
unfolding positioned
position_high i h = ltb→lt (get_or order i 0) 138 (both_right (ltb 0 (get_or order i 0)) (ltb (get_or order i 0) 138) (positioned_at i h))

-- subframe 0's bit of position i stands at place 2 i, subframe 1's after it
pub first_place : (i : ℕ) → codec_place (2 * i) ≡ get_or order i 0 - 1
unfolding codec_place
first_place i =
    let d : 2 * i / 2 ≡ i = omega arith in
    let m : 2 * i % 2 ≡ 0 = omega arith in
    ap₂ (λ (m j : ℕ). 137 * m + get_or order j 0 - 1) m d ∙ omega arith

pub second_place : (i : ℕ) → i < 137 → codec_place (2 * i + 1) ≡ 137 + (get_or order i 0 - 1)
unfolding codec_place
second_place i h =
    let d : (2 * i + 1) / 2 ≡ i = omega arith in
    let m : (2 * i + 1) % 2 ≡ 1 = omega arith in
    ap₂ (λ (m j : ℕ). 137 * m + get_or order j 0 - 1) m d ∙ omega (arith, position_low i h)

-- ---- a turn of a loop
module _ (i : ℕ) (below : i < 137) where
  abbrev position : ℕ
  position = get_or order i 0 - 1

  next : 2 * i + 1 + 1 ≡ 2 * (i + 1)
  next = omega arith

  pub channel_more : (codec dst out : List ℕ) → out ≡ written (gather codec_place (2 * i) codec) dst → 274 ≤ length dst
      → set (set out (2 * i) (get_or codec position 0)) (2 * i + 1) (get_or codec (137 + position) 0) ≡ written (gather codec_place (2 * (i + 1)) codec) dst
  channel_more codec dst out was h =
      let f : ℕ → ℕ = λ j. get_or codec (codec_place j) 0 in
      ap (λ (t : List ℕ). set (set t (2 * i) (get_or codec position 0)) (2 * i + 1) (get_or codec (137 + position) 0)) was
      ∙ ap₂ (λ (p q : ℕ). set (set (written (tabulate f (2 * i)) dst) (2 * i) (get_or codec p 0)) (2 * i + 1) (get_or codec q 0)) (sym (first_place i)) (sym (second_place i below))
      ∙ ap (λ (t : List ℕ). set t (2 * i + 1) (f (2 * i + 1))) (write_more f (2 * i) dst (omega arith))
      ∙ write_more f (2 * i + 1) dst (omega arith) ∙ ap (λ (n : ℕ). written (tabulate f n) dst) next

  pub codec_more : (channel dst out : List ℕ) → out ≡ scatter codec_place (2 * i) channel dst
      → set (set out position (get_or channel (2 * i) 0)) (137 + position) (get_or channel (2 * i + 1) 0) ≡ scatter codec_place (2 * (i + 1)) channel dst
  codec_more channel dst out was =
      ap (λ (t : List ℕ). set (set t position (get_or channel (2 * i) 0)) (137 + position) (get_or channel (2 * i + 1) 0)) was
      ∙ ap₂ (λ (p q : ℕ). set (set (scatter codec_place (2 * i) channel dst) p (get_or channel (2 * i) 0)) q (get_or channel (2 * i + 1) 0)) (sym (first_place i)) (sym (second_place i below))
      ∙ ap (λ (t : List ℕ). set t (codec_place (2 * i + 1)) (get_or channel (2 * i + 1) 0)) (scatter_more codec_place (2 * i) channel dst)
      ∙ scatter_more codec_place (2 * i + 1) channel dst ∙ ap (λ (n : ℕ). scatter codec_place n channel dst) next
