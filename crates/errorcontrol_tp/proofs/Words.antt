-- The word of 274 bits in channel order, and when a word is Good.
-- Assumes nothing.
use mathlib.Core.Path.{◌≡◌, refl, sym, ap, ap₂, ◌∙◌, subst}
use mathlib.Core.List.{List, [], ◌∷◌, ◌++◌, foldr, zip_with, append_assoc}
use mathlib.Core.Bool.{true}
use Prim.Native.Nat.{ℕ, ◌+◌, ◌≤◌}
use native.Mathlib.Omega.{arith}
use borrow.Author.Tests.{eq-eqb}
use lib.Dec.{eqb}
use lib.ListN.{length, take, drop, replicate, get_or, length-append, length-drop, take-append-drop}
use lib.Seq.{take_all, take_at, drop_at, length-take-le, drop-drop}
use Rattle.base.specs.Bits.{Bits, both, bits_only}
use Rattle.base.proofs.BitLaws.{bits_append, bits_tabulate, bits_only_at}
use Rattle.base.proofs.Moves.{gather_length}
use Rattle.trellis.specs.Nearest.{Candidate}
use Rattle.trellis.proofs.Candidates.{tailed_candidate}
use Rattle.trellis.proofs.Words.{bits_drop}
use Rattle.tch_reorder.specs.Order.{channel_of, codec_place}
use Rattle.tch_reorder.proofs.Permutation.{codec_within}
use Rattle.speech_crc.specs.Check.{speech_check}
use Rattle.speech_crc.proofs.Shape.{check_length, check_bits}
use Rattle.errorcontrol_tp.specs.Sending.{word_of, coded}
use Rattle.errorcontrol_tp.specs.Receiving.{good}
use Rattle.errorcontrol_tp.proofs.Mother.{bits_take, coded_long, coded_bits}

pub channel_long : (codec : List ℕ) → length (channel_of codec) ≡ 274
channel_long codec = gather_length codec_place 274 codec

pub channel_plain : (codec : List ℕ) → 274 ≤ length codec → bits_only 274 codec ≡ true → Bits (channel_of codec)
channel_plain codec long plain =
    bits_tabulate (λ j. get_or codec (codec_place j) 0) 274
    (λ j h. bits_only_at 274 (codec_place j) codec plain (codec_within j h) (omega (arith, codec_within j h)))

same_refl : (w : List ℕ) → foldr both true (zip_with eqb w w) ≡ true
unfolding zip_with
same_refl [] = refl
same_refl (x ∷ w) = ap₂ both (eq-eqb x x refl) (same_refl w)

-- ---- the pieces of a slot's word
module _ (channel : List ℕ) (long : length channel ≡ 274) (plain : Bits channel) where
  abbrev first : List ℕ
  first = take 112 (drop 102 channel)

  abbrev second : List ℕ
  second = take 60 (drop 214 channel)

  first_long : length first ≡ 112
  first_long = length-take-le 112 (drop 102 channel) (omega (arith, length-drop 102 channel))

  second_long : length second ≡ 60
  second_long = length-take-le 60 (drop 214 channel) (omega (arith, length-drop 214 channel))

  second_plain : Bits second
  second_plain = bits_take 60 (drop 214 channel) (bits_drop 214 channel plain)

  abbrev front : List ℕ
  front = first ++ second ++ speech_check second

  classes_long : length (first ++ second) ≡ 172
  classes_long = length-append first second ∙ ap₂ (λ (x y : ℕ). x + y) first_long second_long

  front_long : length front ≡ 180
  front_long = length-append (first ++ second) (speech_check second) ∙ ap₂ (λ (x y : ℕ). x + y) classes_long (check_length second)

  pub word_is : word_of channel ≡ front ++ replicate 4 0
  unfolding word_of
  word_is = refl

  pub word_candidate : Candidate 184 (word_of channel)
  word_candidate =
      subst (λ (w : List ℕ). Candidate 184 w) (sym word_is)
      (tailed_candidate front 184
      (bits_append (first ++ second) (speech_check second)
      (bits_append first second (bits_take 112 (drop 102 channel) (bits_drop 102 channel plain)) second_plain) (check_bits second))
      (ap (λ (n : ℕ). n + 4) front_long))

  -- the two classes, and what follows them
  abbrev behind : List ℕ
  behind = speech_check second ++ replicate 4 0

  parted : word_of channel ≡ (first ++ second) ++ behind
  unfolding word_of
  parted = append_assoc (first ++ second) (speech_check second) (replicate 4 0)

  second_of : take 60 (drop 112 (word_of channel)) ≡ second
  second_of =
      ap (λ (l : List ℕ). take 60 (drop 112 l)) (parted ∙ append_assoc first second behind)
      ∙ ap (take 60) (drop_at first (second ++ behind) 112 first_long) ∙ take_at second behind 60 second_long

  check_of : take 8 (drop 172 (word_of channel)) ≡ speech_check second
  check_of =
      ap (λ (l : List ℕ). take 8 (drop 172 l)) parted ∙ ap (take 8) (drop_at (first ++ second) behind 172 classes_long)
      ∙ take_at (speech_check second) (replicate 4 0) 8 (check_length second)

  pub both_of : take 172 (word_of channel) ≡ first ++ second
  both_of = ap (take 172) parted ∙ take_at (first ++ second) behind 172 classes_long

  -- the three classes make the channel
  pub classes : take 102 channel ++ (first ++ second) ≡ channel
  classes =
      ap (λ (l : List ℕ). take 102 channel ++ l)
      (ap (λ (l : List ℕ). first ++ l) (take_all 60 (drop 214 channel) (omega (arith, length-drop 214 channel)) ∙ sym (drop-drop 112 102 channel))
      ∙ take-append-drop 112 (drop 102 channel))
      ∙ take-append-drop 102 channel

  -- ---- the block that is sent
  abbrev block : List ℕ
  block = take 102 channel ++ coded (word_of channel)

  pub uncoded_long : length (take 102 channel) ≡ 102
  uncoded_long = length-take-le 102 channel (omega arith)

  pub block_whole : length block ≡ 432
  block_whole =
      length-append (take 102 channel) (coded (word_of channel)) ∙ ap₂ (λ (x y : ℕ). x + y) uncoded_long (coded_long (word_of channel))

  pub block_plain : Bits block
  block_plain = bits_append (take 102 channel) (coded (word_of channel)) (bits_take 102 channel plain) (coded_bits (word_of channel))

  -- ---- the check
  pub word_good : good (word_of channel) ≡ true
  unfolding good
  word_good = ap₂ (λ (x y : List ℕ). foldr both true (zip_with eqb x (speech_check y))) check_of second_of ∙ same_refl (speech_check second)
