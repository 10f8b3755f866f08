-- What the stages of sending and receiving make, put together from their parts.
-- Assumes nothing.
use mathlib.Core.Path.{◌≡◌, refl, sym, ap, ap₂, ◌∙◌}
use mathlib.Core.List.{List, [], ◌∷◌, ◌++◌, map, foldr, zip_with, append_assoc, append-nil}
use Prim.Native.Nat.{ℕ, ◌+◌, ◌≤◌}
use native.Mathlib.Omega.{arith}
use lib.Dec.{eqb}
use borrow.Author.Tests.{le-ltb}
use borrow.Rule.Slice.PartMut.{put_mid}
use lib.ListN.{length, take, drop, get_or, replicate, length-append, length-drop, length-map, get_or-map}
use lib.Seq.{length-take-le, get_or-take, take_at, drop_at}
use mathlib.Core.Bool.{Bool, true, false, ◌&&◌}
use lib.Pointwise.{pointwise}
use Rattle.base.specs.Refusal.{accepted, unless, when}
use mir.Val.{bool_byte}
use Rattle.base.specs.Bits.{both}
use Rattle.stages.proofs.Calls.{whole}
use Rattle.errorcontrol_tp.specs.Receiving.{read_bit, good}
use Rattle.base.specs.Places.{written, tabulate}
use Rattle.base.proofs.Lists.{tabulate_of}
use Rattle.speech_crc.specs.Check.{speech_check, check_refusal}
use Rattle.speech_crc.proofs.Shape.{check_length}
use Rattle.tch_reorder.specs.Order.{reorder_refusal}

pub reorder_free : (src dst : ℕ) → 274 ≤ src → 274 ≤ dst → reorder_refusal src dst ≡ accepted
reorder_free src dst h k = rw (le-ltb src 274 h, le-ltb dst 274 k)

pub check_free : (src dst : ℕ) → 60 ≤ src → 8 ≤ dst → check_refusal src dst ≡ accepted
check_free src dst h k = rw (le-ltb src 60 h, le-ltb dst 8 k)

-- ---- class 2 with its check
module _ (channel p q : List ℕ) (long : length channel ≡ 274) (front : p ≡ take 60 (drop 214 channel)) where
  abbrev bits : List ℕ
  bits = take 60 (drop 214 channel)

  bits_long : length bits ≡ 60
  bits_long = length-take-le 60 (drop 214 channel) (omega (arith, length-drop 214 channel))

  pub p_long : length p ≡ 60
  p_long = ap length front ∙ bits_long

  pub room : length (p ++ replicate 12 0) ≡ 72
  room = length-append p (replicate 12 0) ∙ ap (λ (n : ℕ). n + 12) p_long

  abbrev spare : List ℕ
  spare = take 8 (drop 60 (p ++ replicate 12 0))

  spare_long : length spare ≡ 8
  spare_long = length-take-le 8 (drop 60 (p ++ replicate 12 0)) (omega (arith, length-drop 60 (p ++ replicate 12 0), room))

  pub class2_is : q ≡ unless (check_refusal (length bits) (length spare)) (written (speech_check bits) spare) spare
      → put_mid 60 8 (p ++ replicate 12 0) q ≡ bits ++ speech_check bits ++ replicate 4 0
  class2_is e =
      ap₂ (λ (x y : List ℕ). x ++ (q ++ drop 8 y)) (take_at p (replicate 12 0) 60 p_long ∙ front) (drop_at p (replicate 12 0) 60 p_long)
      ∙ ap (λ (x : List ℕ). bits ++ (x ++ replicate 4 0)) made ∙ sym (append_assoc bits (speech_check bits) (replicate 4 0))
    where
      made : q ≡ speech_check bits
      made =
          whole (check_refusal (length bits) (length spare)) (speech_check bits) spare q
          (check_free (length bits) (length spare) (omega (arith, bits_long)) (omega (arith, spare_long))) (check_length bits ∙ sym spare_long) e

-- ---- the channel frame
pub byte_when : (t : Bool) → bool_byte t ≡ when t 1 0
byte_when true = refl
byte_when false = refl

pub read_map : (n : ℕ) (l : List ℕ) → n ≤ length l → tabulate (λ j. read_bit (get_or l j 0)) n ≡ map read_bit (take n l)
read_map n l h =
    sym (tabulate_of (map read_bit (take n l)) (λ j. read_bit (get_or l j 0)) n (length-map (take n l) read_bit ∙ length-take-le n l h)
    (λ i k. get_or-map read_bit (take n l) i 0 ∙ ap read_bit (get_or-take n l i 0 k)))

pub read_long : (block : List ℕ) → 102 ≤ length block → length (map read_bit (take 102 block)) ≡ 102
read_long block h = length-map (take 102 block) read_bit ∙ length-take-le 102 block h

-- ---- runs that are the same
abbrev same : List ℕ → List ℕ → Bool
same a b = foldr both true (zip_with eqb a b)

both_and : (s t : Bool) → (s && t) ≡ both s t
both_and true t = refl
both_and false t = refl

same_pointwise : (a b : List ℕ) → length a ≡ length b → pointwise eqb a b ≡ same a b
unfolding zip_with
same_pointwise [] [] e = refl
same_pointwise [] (y ∷ b) e = absurd (omega arith)
same_pointwise (x ∷ a) [] e = absurd (omega arith)
same_pointwise (x ∷ a) (y ∷ b) e = both_and (eqb x y) (pointwise eqb a b) ∙ ap (both (eqb x y)) (same_pointwise a b (omega arith))

-- ---- the verdict's two runs
pub check_made : (word blank q : List ℕ) → length word ≡ 184 → length blank ≡ 8
    → q ≡ unless (check_refusal (length (take 60 (drop 112 word))) (length blank)) (written (speech_check (take 60 (drop 112 word))) blank) blank
    → q ≡ speech_check (take 60 (drop 112 word))
check_made word blank q e l p =
    whole (check_refusal (length bits) (length blank)) (speech_check bits) blank q (check_free (length bits) (length blank) (omega (arith, long)) (omega arith))
    (check_length bits ∙ sym l) p
  where
    bits : List ℕ
    bits = take 60 (drop 112 word)

    long : length bits ≡ 60
    long = length-take-le 60 (drop 112 word) (omega (arith, length-drop 112 word))

-- what the two runs' equality says
pub verdict : (word blank q : List ℕ) → length word ≡ 184 → length blank ≡ 8
    → q ≡ unless (check_refusal (length (take 60 (drop 112 word))) (length blank)) (written (speech_check (take 60 (drop 112 word))) blank) blank
    → pointwise eqb (take 8 (drop 172 word)) q ≡ good word
unfolding good
verdict word blank q e l p =
    let made = check_made word blank q e l p in
    let long : length (take 8 (drop 172 word)) ≡ length q =
    omega (arith, length-take-le 8 (drop 172 word) (omega (arith, length-drop 172 word)), ap length made, check_length (take 60 (drop 112 word))) in
    same_pointwise (take 8 (drop 172 word)) q long ∙ ap (same (take 8 (drop 172 word))) made

-- ---- the channel frame from its two parts
module _ (block word u p : List ℕ) (whole-block : length block ≡ 432) (whole_word : length word ≡ 184)
    (read : u ≡ map read_bit (take 102 block)) (front : p ≡ u) where
  u_long : length u ≡ 102
  u_long = ap length read ∙ read_long block (omega arith)

  frame_p : length p ≡ 102
  frame_p = ap length front ∙ u_long

  pub frame_is : (q : List ℕ) → q ≡ take 172 word
      → put_mid 102 172 (p ++ replicate 172 0) q ≡ map read_bit (take 102 block) ++ take 172 word
  frame_is q e =
      ap₂ (λ (x y : List ℕ). x ++ (q ++ drop 172 y)) (take_at p (replicate 172 0) 102 frame_p ∙ front ∙ read) (drop_at p (replicate 172 0) 102 frame_p)
      ∙ ap (λ (x : List ℕ). map read_bit (take 102 block) ++ x) (append-nil q ∙ e)
