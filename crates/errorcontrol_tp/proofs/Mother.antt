-- Where the coded symbols of a slot stand: among the symbols of the mother code, and in the block.
-- Assumes nothing.
use mathlib.Core.Path.{◌≡◌, refl, sym, ap, ap₂, ◌∙◌}
use mathlib.Core.List.{List, [], ◌∷◌, ◌++◌}
use Prim.Native.Nat.{ℕ, zero, suc, ◌+◌, ◌-◌, ◌*◌, ◌<◌}
use native.Mathlib.Omega.{arith}
use lib.Dec.{ltb}
use borrow.Author.Tests.{ltb-true, ltb-false}
use mathlib.Core.Bool.{Bool, true, false}
use lib.ListN.{length, take, drop, replicate, get_or, length-append, take-append-drop, get_or-append}
use lib.Seq.{length-take-le, get_or-take, get_or-drop, get_or-append-add}
use Rattle.base.specs.Bits.{Bits, ERASED}
use Rattle.base.specs.Places.{Apart}
use Rattle.base.specs.private.Places.{Within}
use Rattle.base.proofs.Moves.{gather_length, gather_at}
use Rattle.trellis.specs.Nearest.{encode}
use Rattle.trellis.proofs.Words.{bits_drop}
use Rattle.base.proofs.BitLaws.{bits_append}
use Rattle.air.proofs.Moved.{gather_bits}
use Rattle.stages.proofs.Route.{Missed}
use Rattle.stages.proofs.Pieces.{joined, joined_first, joined_rest, joined_apart, joined_within, joined_at, joined_missed}
use Rattle.convenc.specs.Generators.{outputs, speech}
use Rattle.puncturing.specs.Puncturing.{punctured, depunctured, kept_place}
use Rattle.convenc.proofs.Encoding.{encoded_bits, encoded_length}
use Rattle.puncturing.proofs.Modes.{kept_apart}
use Rattle.puncturing.proofs.Steps.{kept_first_of, kept_steps}
use Rattle.stages.proofs.Places.{put_length, put_at, put_missed}
use Rattle.errorcontrol_tp.specs.Sending.{coded}
use Rattle.errorcontrol_tp.specs.Receiving.{mother_of}

pub bits_take : (n : ℕ) (w : List ℕ) → Bits w → Bits (take n w)
bits_take zero w b = tt
bits_take (suc n) [] b = tt
bits_take (suc n) (x ∷ w) b = (b.0, bits_take n w b.1)

pub encoded_long : (w : List ℕ) → length w ≡ 184 → length (encode (outputs speech) 0 w) ≡ 552
encoded_long w e = encoded_length speech 0 w ∙ ap (λ (n : ℕ). 3 * n) e

pub coded_long : (w : List ℕ) → length (coded w) ≡ 330
unfolding coded
coded_long w =
    length-append (punctured 4 168 (take 336 enc)) (punctured 5 162 (drop 336 enc))
    ∙ ap₂ (λ (x y : ℕ). x + y) (gather_length (kept_place 4) 168 (take 336 enc)) (gather_length (kept_place 5) 162 (drop 336 enc))
  where
    enc : List ℕ
    enc = encode (outputs speech) 0 w

pub coded_bits : (w : List ℕ) → Bits (coded w)
unfolding coded
coded_bits w =
    bits_append (punctured 4 168 (take 336 enc)) (punctured 5 162 (drop 336 enc))
    (gather_bits (kept_place 4) 168 (take 336 enc) (bits_take 336 enc b)) (gather_bits (kept_place 5) 162 (drop 336 enc) (bits_drop 336 enc b))
  where
    enc : List ℕ
    enc = encode (outputs speech) 0 w

    b : Bits enc
    b = encoded_bits speech 0 w

-- what the two modes keep: places apart, within the mother code, and the first output of every step
record Kept (mode n steps : ℕ) : Type 0 where
  apart : Apart (kept_place mode) n
  within : Within (kept_place mode) n (3 * steps)
  first : (t : ℕ) → t < steps → (j : ℕ) × (j < n) × (kept_place mode j ≡ 3 * t)

first_kept : Kept 4 168 112
first_kept = record { apart = kept_apart 4 (omega arith) 168; within = kept_steps 4 168 112 tt (omega arith); first = λ t h. kept_first_of 4 168 112 t tt (omega arith) h }

second_kept : Kept 5 162 72
second_kept = record { apart = kept_apart 5 (omega arith) 162; within = kept_steps 5 162 72 tt (omega arith); first = λ t h. kept_first_of 5 162 72 t tt (omega arith) h }

-- where coded symbol j stands among the mother symbols
abbrev pub mother_place : ℕ → ℕ
mother_place = joined (kept_place 4) (kept_place 5) 168 336

pub mother_apart : Apart mother_place 330
mother_apart = joined_apart (kept_place 4) (kept_place 5) 168 336 162 first_kept.within first_kept.apart second_kept.apart

pub mother_within : Within mother_place 330 552
mother_within = joined_within (kept_place 4) (kept_place 5) 168 336 162 first_kept.within 216 second_kept.within

-- the first output of every step is carried
pub mother_first : (t : ℕ) → t < 184 → (j : ℕ) × (j < 330) × (mother_place j ≡ 3 * t)
mother_first t h = go (ltb t 112) refl
  where
    go : (u : Bool) → ltb t 112 ≡ u → (j : ℕ) × (j < 330) × (mother_place j ≡ 3 * t)
    go true e =
        let f = first_kept.first t (ltb-true t 112 e) in
        (f.0, omega (arith, f.1), joined_first (kept_place 4) (kept_place 5) 168 336 f.0 f.1 ∙ f.2)
    go false e =
        let f = second_kept.first (t - 112) (omega (arith, ltb-false t 112 e)) in
        (168 + f.0, omega (arith, f.1), joined_rest (kept_place 4) (kept_place 5) 168 336 f.0 ∙ omega (arith, f.2, ltb-false t 112 e))

pub coded_at : (w : List ℕ) → length w ≡ 184 → (j : ℕ) → j < 330 → get_or (coded w) j 0 ≡ get_or (encode (outputs speech) 0 w) (mother_place j) 0
unfolding coded
coded_at w k j h =
    joined_at (kept_place 4) (kept_place 5) 168 336 162 first_kept.within 0 (take 336 enc) (drop 336 enc) (λ i v. get_or (coded w) i 0 ≡ v)
    (length-take-le 336 enc (omega (arith, encoded_long w k)))
    (λ i l. get_or-append first second 0 i (omega (arith, long)) ∙ gather_at (kept_place 4) 168 (take 336 enc) i l)
    (λ i l. ap (λ (x : ℕ). get_or (first ++ second) (x + i) 0) (sym long) ∙ get_or-append-add first second i 0 ∙ gather_at (kept_place 5) 162 (drop 336 enc) i l) j h
    ∙ ap (λ (l : List ℕ). get_or l (mother_place j) 0) (take-append-drop 336 enc)
  where
    enc : List ℕ
    enc = encode (outputs speech) 0 w

    first : List ℕ
    first = punctured 4 168 (take 336 enc)

    second : List ℕ
    second = punctured 5 162 (drop 336 enc)

    long : length first ≡ 168
    long = gather_length (kept_place 4) 168 (take 336 enc)

-- ---- what the decoder is given of a block
module _ (block : List ℕ) where
  abbrev X : List ℕ
  X = take 168 (drop 102 block)

  abbrev Y : List ℕ
  Y = take 162 (drop 270 block)

  abbrev A : List ℕ
  A = depunctured 4 168 X (replicate 336 ERASED)

  abbrev B : List ℕ
  B = depunctured 5 162 Y (replicate 216 ERASED)

  A-long : length A ≡ 336
  A-long = put_length 4 168 336 (omega arith) first_kept.within X

  pub mother_long : length (mother_of block) ≡ 552
  unfolding mother_of
  mother_long = length-append A B ∙ ap₂ (λ (x y : ℕ). x + y) A-long (put_length 5 162 216 (omega arith) second_kept.within Y)

  pub mother_at : (j : ℕ) → j < 330 → get_or (mother_of block) (mother_place j) 0 ≡ get_or block (102 + j) 0
  unfolding mother_of
  mother_at =
      joined_at (kept_place 4) (kept_place 5) 168 336 162 first_kept.within 0 A B (λ j v. v ≡ get_or block (102 + j) 0) A-long
      (λ j h. put_at 4 168 336 (omega arith) first_kept.within X j h ∙ get_or-take 168 (drop 102 block) j 0 h ∙ get_or-drop 102 block j 0)
      (λ j h. put_at 5 162 216 (omega arith) second_kept.within Y j h ∙ get_or-take 162 (drop 270 block) j 0 h ∙ get_or-drop 270 block j 0 ∙ ap (λ (x : ℕ). get_or block x 0) (far j))
    where
      far : (j : ℕ) → 270 + j ≡ 102 + (168 + j)
      far j = omega arith

  pub mother_missed : (x : ℕ) → x < 552 → Missed mother_place 330 x → get_or (mother_of block) x 0 ≡ ERASED
  unfolding mother_of
  mother_missed =
      joined_missed (kept_place 4) (kept_place 5) 168 336 162 first_kept.within 0 A B (λ v. v ≡ ERASED) 216 A-long
      (put_missed 4 168 336 (omega arith) first_kept.within X) (put_missed 5 162 216 (omega arith) second_kept.within Y)
