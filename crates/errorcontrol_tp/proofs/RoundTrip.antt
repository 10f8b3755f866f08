-- A whole slot, sent and received undamaged under the same start, gives back its bits, is Good, and disagrees nowhere.
-- Assumes nothing.
use mathlib.Core.Path.{◌≡◌, refl, ap, ap₂, ◌∙◌}
use mathlib.Core.List.{List, [], ◌∷◌, ◌++◌, map}
use mathlib.Core.Bool.{Bool, true}
use Prim.Native.Nat.{ℕ, zero, suc, ◌≤◌}
use native.Mathlib.Omega.{arith}
use borrow.Author.Tests.{le-ltb}
use lib.ListN.{length, take, drop, replicate, get_or, length-replicate}
use lib.Seq.{take_at, length-take-le}
use Rattle.base.specs.declared.Counts.{Counts}
use Rattle.std.specs.Prelude.{Result, Ok}
use Rattle.base.specs.declared.Refusal.{Refusal}
use Rattle.base.specs.declared.Received.{Received}
use Rattle.base.specs.declared.Received.TheVariants.{Good}
use Rattle.base.specs.Bits.{Bits, bits_only}
use Rattle.base.specs.Places.{written}
use Rattle.base.specs.Refusal.{accepted, checked}
use Rattle.base.proofs.Lists.{written_length, written_whole}
use Rattle.convenc.specs.Generators.{speech}
use Rattle.tch_reorder.specs.Order.{channel_of, codec_of}
use Rattle.tch_reorder.proofs.Permutation.{codec_of_channel}
use Rattle.viterbi.specs.Decoding.{disagreements}
use Rattle.air.specs.Channel.{Undamaged}
use Rattle.stages.proofs.Passage as passing
use Rattle.stages.proofs.Entries.{done_sent, received_done}
use Rattle.errorcontrol_tp.specs.Sending.{word_of, coded, slot, send_refusal, Sends}
use Rattle.errorcontrol_tp.specs.Receiving.{slot_of, block_of, mother_of, word_from, counts_of, good, read_bit, codec_bits, receive_refusal, Receives}
use Rattle.errorcontrol_tp.specs.Hearing.{coded_place, speech_channel}
use Rattle.errorcontrol_tp.proofs.Mother.{bits_take, mother_first}
use Rattle.errorcontrol_tp.proofs.Air.{block_of_air, slot_carries, slot_long}
use Rattle.errorcontrol_tp.proofs.Words.{channel_long, channel_plain, word_candidate, word_good, both_of, classes, uncoded_long, block_whole, block_plain}
use Rattle.errorcontrol_tp.proofs.Refusals.{SendAccepted, send_accepted}
use Rattle.errorcontrol_tp.proofs.Demand.{passage, arrival}

read_bits : (w : List ℕ) → Bits w → map read_bit w ≡ w
read_bits [] b = refl
read_bits (zero ∷ w) b = ap (λ (l : List ℕ). 0 ∷ l) (read_bits w b.1)
read_bits (suc zero ∷ w) b = ap (λ (l : List ℕ). 1 ∷ l) (read_bits w b.1)
read_bits (suc (suc x) ∷ w) b = absurd (omega (arith, b.0))

-- ---- an air that begins with the slot
module _ (start : ℕ) (codec air : List ℕ) (long : 274 ≤ length codec) (plain : bits_only 274 codec ≡ true) (as_sent : slot_of 432 air ≡ slot start codec) where
  abbrev channel : List ℕ
  channel = channel_of codec

  abbrev wide : length channel ≡ 274
  wide = channel_long codec

  abbrev bits : Bits channel
  bits = channel_plain codec long plain

  block_back : block_of start (slot_of 432 air) ≡ take 102 channel ++ coded (word_of channel)
  unfolding slot
  block_back =
      ap (block_of start) as_sent
      ∙ block_of_air start (take 102 channel ++ coded (word_of channel)) (block_plain channel wide bits) (block_whole channel wide bits)

  clean : Undamaged (speech_channel 432 start) (word_of channel) air
  clean j h = ap (λ (l : List ℕ). get_or l (coded_place j) 0) as_sent ∙ slot_carries start codec j h

  abbrev mother : List ℕ
  mother = mother_of (block_of start (slot_of 432 air))

  whole : length (slot_of 432 air) ≡ 432
  whole = ap length as_sent ∙ slot_long start codec

  pub word_back : word_from 432 start air ≡ word_of (channel_of codec)
  unfolding word_from
  word_back =
      passing.word_back (passage start) (slot_of 432) air mother (arrival 432 start air whole) (word_of channel) (word_candidate channel wide bits) clean tt mother_first

  pub none_disagree : counts_of 432 start air ≡ record { disagreements = 0 }
  unfolding counts_of
  none_disagree =
      ap (λ (n : ℕ). record { disagreements = n }) (ap (disagreements speech 184 mother) word_back
      ∙ passing.none_disagree (passage start) (slot_of 432) air mother (arrival 432 start air whole) (word_of channel) (word_candidate channel wide bits) clean)

  pub codec_back : codec_bits 432 start air (word_from 432 start air) ≡ take 274 codec
  unfolding codec_bits
  codec_back =
      ap₂ (λ (l w : List ℕ). codec_of (map read_bit (take 102 l) ++ take 172 w) (replicate 274 0)) block_back word_back
      ∙ ap₂ (λ (x y : List ℕ). codec_of (x ++ y) (replicate 274 0))
      (ap (map read_bit) (take_at (take 102 channel) (coded (word_of channel)) 102 (uncoded_long channel wide bits))
      ∙ read_bits (take 102 channel) (bits_take 102 channel bits))
      (both_of channel wide bits)
      ∙ ap (λ (l : List ℕ). codec_of l (replicate 274 0)) (classes channel wide bits)
      ∙ codec_of_channel codec (replicate 274 0) long (omega (arith, length-replicate {A = ℕ} 274 0))
      ∙ written_whole (take 274 codec) (replicate 274 0) (length-take-le 274 codec long)

-- ---- what `encode_tp` left in its target and `decode_tp` received under the same start
module _ (start : ℕ) (codec air air' target target' trellis trellis' : List ℕ) (answer : Result Received Refusal)
    (sends : Sends 432 start codec air accepted air') (room : 274 ≤ length target) (steps : 184 ≤ length trellis)
    (receives : Receives 432 start air' target trellis answer target' trellis') where
  done : (send_refusal 432 codec (length air) ≡ accepted) × (air' ≡ written (slot start codec) air)
  done = done_sent sends

  sendable : SendAccepted 432 codec (length air)
  sendable = send_accepted 432 codec (length air) done.0

  as_sent : slot_of 432 air' ≡ slot start codec
  as_sent = ap (take 432) done.1 ∙ take_at (slot start codec) (drop (length (slot start codec)) air) 432 (slot_long start codec)

  enough : 432 ≤ length air'
  enough = omega (arith, ap length done.1, written_length (slot start codec) air (omega (arith, slot_long start codec, sendable.room)), sendable.room)

  none : receive_refusal 432 (length air') (length target) (length trellis) ≡ accepted
  none = rw (le-ltb (length air') 432 enough, le-ltb (length target) 274 room, le-ltb (length trellis) 184 steps)

  heard : (answer ≡ Ok (checked (good (word_from 432 start air')) (counts_of 432 start air'))) × (target' ≡ written (codec_bits 432 start air' (word_from 432 start air')) target)
  heard = received_done (good (word_from 432 start air')) (counts_of 432 start air') receives none

  pub round_trip_answer : answer ≡ Ok (Good (record { disagreements = 0 }))
  round_trip_answer =
      heard.0
      ∙ ap₂ (λ (t : Bool) (c : Counts). Ok (checked t c))
      (ap good (word_back start codec air' sendable.long sendable.plain as_sent)
      ∙ word_good (channel_of codec) (channel_long codec) (channel_plain codec sendable.long sendable.plain))
      (none_disagree start codec air' sendable.long sendable.plain as_sent)

  pub round_trip_codec : target' ≡ written (take 274 codec) target
  round_trip_codec = heard.1 ∙ ap (λ (b : List ℕ). written b target) (codec_back start codec air' sendable.long sendable.plain as_sent)
