-- Demand 3 for a speech slot and for a second half, over what `decode_tp` and `decode_tp_half` answer and write.
-- Assumes nothing.
use mathlib.Core.Path.{◌≡◌, refl, ap, ◌∙◌}
use mathlib.Core.List.{List, ◌++◌}
use Prim.Native.Nat.{ℕ, ◌+◌, ◌%◌, ◌≤◌}
use native.Mathlib.Omega.{arith}
use lib.ListN.{length, replicate, length-replicate}
use Rattle.base.specs.Bits.{Bits}
use Rattle.convenc.specs.Generators.{speech}
use Rattle.scrambler.specs.Scrambling.{output}
use Rattle.viterbi.specs.Walking.{WalksBack}
use Rattle.viterbi.proofs.Walking.{walks_back}
use Rattle.viterbi.specs.Decoding.{disagreements}
use Rattle.air.specs.Demand.{Unrefused, HeardRight}
use Rattle.stages.proofs.Passage.{Passage, Arrival, bits_lawful, weighs}
use Rattle.stages.proofs.Demand.{entry_right}
use Rattle.errorcontrol_tp.specs.Sending.{coded}
use Rattle.errorcontrol_tp.specs.Receiving.{slot_of, block_of, mother_of, word_from, counts_of, good, codec_bits, receive_refusal, Receives}
use Rattle.errorcontrol_tp.specs.Hearing.{coded_place, sent_word, speech_channel}
use Rattle.errorcontrol_tp.proofs.Mother.{mother_long, mother_place, mother_apart, mother_within, coded_at, mother_at, mother_missed}
use Rattle.errorcontrol_tp.proofs.Air.{block_at, air_bits, sent_symbol}
use Rattle.errorcontrol_tp.proofs.Refusals.{receive_accepted, slot_whole}

sent_bits : (start : ℕ) (w : List ℕ) → Bits (sent_word start w)
unfolding sent_word
sent_bits start w = air_bits start (replicate 102 0 ++ coded w)

-- from the mother code to the air: what the two modes keep, and where the matrix moves it
pub passage : (start : ℕ) → Passage speech 184 start 330 mother_place coded_place (sent_word start)
unfolding sent_word
passage start =
    record {
      apart = mother_apart;
      within = mother_within;
      plain = sent_bits start;
      sends = λ w e j h. sent_symbol start (replicate 102 0) (coded w) (length-replicate {A = ℕ} 102 0) j h
          ∙ ap (λ (y : ℕ). (y + output start (coded_place j)) % 2) (coded_at w e j h);
    }

pub arrival : (count start : ℕ) (air : List ℕ) → length (slot_of count air) ≡ 432
    → Arrival speech 184 start 330 mother_place coded_place (slot_of count air) (mother_of (block_of start (slot_of count air)))
arrival count start air whole =
    record {
      long = mother_long (block_of start (slot_of count air));
      given = λ j h. mother_at (block_of start (slot_of count air)) j h ∙ block_at start (slot_of count air) whole (102 + j) (omega arith);
      missed = mother_missed (block_of start (slot_of count air));
    }

-- ---- demand 3
slot_right : (count start : ℕ) → count ≤ 432 → (air : List ℕ) (reported : ℕ) (codec codec' : List ℕ) → Unrefused (Receives count start) air reported codec codec'
    → HeardRight (speech_channel count start) (Unrefused (Receives count start)) (codec_bits count start) air reported codec codec'
unfolding word_from counts_of
slot_right count start most =
    entry_right (λ air. receive_refusal count (length air)) (λ air. good (word_from count start air)) (counts_of count start)
    (λ air. codec_bits count start air (word_from count start air)) 184
    (λ air. disagreements speech 184 (mother_of (block_of start (slot_of count air))))
    (bits_lawful 184 330 coded_place (sent_word start) (slot_of count) (sent_bits start))
    (λ air codec trellis ok. weighs (passage start) (slot_of count) air (mother_of (block_of start (slot_of count air)))
    (arrival count start air (slot_whole count air most (receive_accepted count (length air) codec trellis ok).long)))
    (λ air. refl) (λ air. refl)

pub decode_tp_right : (start : ℕ) (air : List ℕ) (count : ℕ) (codec codec' : List ℕ) → Unrefused (Receives 432 start) air count codec codec'
    → HeardRight (speech_channel 432 start) (Unrefused (Receives 432 start)) (codec_bits 432 start) air count codec codec'
decode_tp_right start = slot_right 432 start (omega arith)

pub decode_tp_half_right : (start : ℕ) (air : List ℕ) (count : ℕ) (codec codec' : List ℕ) → Unrefused (Receives 216 start) air count codec codec'
    → HeardRight (speech_channel 216 start) (Unrefused (Receives 216 start)) (codec_bits 216 start) air count codec codec'
decode_tp_half_right start = slot_right 216 start (omega arith)

-- ---- the walk back, for 432 symbols and for 216
pub decode_tp_walks_back : (count start : ℕ) (air : List ℕ) → WalksBack speech 184 (mother_of (block_of start (slot_of count air)))
decode_tp_walks_back count start air =
    walks_back speech 184 (mother_of (block_of start (slot_of count air))) (omega (arith, mother_long (block_of start (slot_of count air))))
