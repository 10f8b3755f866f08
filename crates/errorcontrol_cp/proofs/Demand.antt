-- Demand 3 for a control block, over what `decode_cp` answers and writes.
-- Assumes nothing.
use mathlib.Core.Path.{◌≡◌, refl, sym, ap, ◌∙◌}
use mathlib.Core.List.{List, ◌++◌}
use mathlib.Core.Bool.{Bool, true, false}
use Prim.Native.Nat.{ℕ, ◌+◌, ◌*◌, ◌≤◌, ◌<◌}
use native.Mathlib.Omega.{arith}
use Rattle.std.specs.Prelude.{Result, Ok}
use lib.ListN.{length, take, drop, replicate, length-drop, length-replicate}
use lib.Seq.{take-append-le, drop-append-le}
use Rattle.base.specs.declared.Counts.{Counts}
use Rattle.base.specs.Bits.{Bits, ERASED}
use Rattle.base.specs.Places.{written}
use Rattle.base.specs.private.Places.{Within}
use Rattle.base.specs.declared.Received.{Received}
use Rattle.base.specs.declared.Received.TheVariants.{Good}
use Rattle.base.specs.declared.Refusal.{Refusal}
use Rattle.base.specs.Refusal.{accepted, checked}
use Rattle.base.proofs.Moves.{Onto, scatter_length}
use Rattle.trellis.proofs.Winners.{nearest_length, nearest_bits}
use Rattle.convenc.specs.Generators.{control}
use Rattle.puncturing.specs.Puncturing.{kept_place}
use Rattle.puncturing.proofs.Steps.{kept_steps, kept_first_of}
use Rattle.interleaver.specs.Interleaving.{place, interleaved}
use Rattle.interleaver.proofs.Block.{block_onto}
use Rattle.scrambler.proofs.Blocks.{scrambled_bits}
use Rattle.crc16.specs.Crc.{check}
use Rattle.viterbi.specs.Walking.{WalksBack}
use Rattle.viterbi.proofs.Walking.{walks_back}
use Rattle.viterbi.specs.Decoding.{disagreements}
use Rattle.air.specs.Demand.{Unrefused, HeardRight, itself}
use Rattle.stages.proofs.Passage.{Passage, Arrival, bits_lawful, weighs}
use Rattle.stages.proofs.Places as places
use Rattle.stages.proofs.Entries.{unrefused, received_done}
use Rattle.stages.proofs.Demand.{entry_right}
use Rattle.errorcontrol_cp.specs.Kinds.{is_kind, data_bits, word_bits, air_symbols, interleaver_step}
use Rattle.errorcontrol_cp.specs.Sending.{coded, sent}
use Rattle.errorcontrol_cp.specs.Receiving.{coded_from, mother, word_from, counts_of, good, receive_refusal, Receives}
use Rattle.errorcontrol_cp.specs.Hearing.{control_channel}
use Rattle.errorcontrol_cp.proofs.Rows.{row}
use Rattle.errorcontrol_cp.proofs.Words.{good_check}
use Rattle.errorcontrol_cp.proofs.Refusals.{receive_accepts}

-- ---- what is sent and what the decoder is given
pub sent_length : (kind start : ℕ) (w : List ℕ) → length (sent kind start w) ≡ air_symbols kind
unfolding sent
sent_length kind start w = places.sent_length (place (air_symbols kind) (interleaver_step kind)) (air_symbols kind) start (coded kind w)

sent_bits : (kind start : ℕ) (w : List ℕ) → Bits (sent kind start w)
unfolding sent
sent_bits kind start w = scrambled_bits start (interleaved (air_symbols kind) (interleaver_step kind) (coded kind w) (replicate (air_symbols kind) 0))

pub mother_length : (kind start : ℕ) (air : List ℕ) → length (mother kind start air) ≡ 4 * word_bits kind
unfolding mother
mother_length kind start air =
    scatter_length (kept_place 0) (air_symbols kind) (coded_from kind start air) (replicate (4 * word_bits kind) ERASED)
    ∙ length-replicate (4 * word_bits kind) ERASED

-- ---- a kind's places: what mode 2_3 keeps, and where the interleaver moves it
module _ (kind : ℕ) (known : is_kind kind ≡ true) where
  kept_within : Within (kept_place 0) (air_symbols kind) (4 * word_bits kind)
  kept_within = kept_steps 0 (air_symbols kind) (word_bits kind) tt (omega (arith, (row kind known).air))

  -- the first symbol of each step is kept
  pub kept_first : (t : ℕ) → t < word_bits kind → (j : ℕ) × (j < air_symbols kind) × (kept_place 0 j ≡ 4 * t)
  kept_first t h = kept_first_of 0 (air_symbols kind) (word_bits kind) t tt (omega (arith, (row kind known).air)) h

  -- every place of the air carries a coded symbol
  pub every_place : Onto (place (air_symbols kind) (interleaver_step kind)) (air_symbols kind)
  every_place = block_onto (air_symbols kind) (interleaver_step kind) (row kind known).alone

  module _ (start : ℕ) where
    pub passage : Passage control (word_bits kind) start (air_symbols kind) (kept_place 0) (place (air_symbols kind) (interleaver_step kind)) (sent kind start)
    unfolding sent coded
    passage = places.block_passage control 0 (word_bits kind) (air_symbols kind) (interleaver_step kind) start (omega arith) (row kind known).alone kept_within

    pub arrival : (air : List ℕ) → air_symbols kind ≤ length air
        → Arrival control (word_bits kind) start (air_symbols kind) (kept_place 0) (place (air_symbols kind) (interleaver_step kind)) air (mother kind start air)
    unfolding mother coded_from
    arrival = places.block_arrival control 0 (word_bits kind) (air_symbols kind) (interleaver_step kind) start (omega arith) (row kind known).alone kept_within

-- ---- demand 3
pub decode_cp_right : (kind start : ℕ) (air : List ℕ) (count : ℕ) (word word' : List ℕ) → Unrefused (Receives kind start) air count word word'
    → HeardRight (control_channel kind start) (Unrefused (Receives kind start)) itself air count word word'
unfolding word_from counts_of
decode_cp_right kind start =
    entry_right (λ air. receive_refusal kind (length air)) (λ air. good kind (word_from kind start air)) (counts_of kind start) (word_from kind start) (word_bits kind)
    (λ air. disagreements control (word_bits kind) (mother kind start air))
    (bits_lawful (word_bits kind) (air_symbols kind) (place (air_symbols kind) (interleaver_step kind)) (sent kind start) (λ air. air) (sent_bits kind start))
    (λ air word trellis ok. let a = receive_accepts kind (length air) word trellis ok in
    weighs (passage kind a.known start) (λ l. l) air (mother kind start air) (arrival kind a.known start air a.fits.long))
    (λ air. refl) (λ air. refl)

-- ---- the walk back
pub decode_cp_walks_back : (kind start : ℕ) (air : List ℕ) → WalksBack control (word_bits kind) (mother kind start air)
decode_cp_walks_back kind start air = walks_back control (word_bits kind) (mother kind start air) (omega (arith, mother_length kind start air))

-- ---- Good
decoded_length : (kind start : ℕ) (air : List ℕ) → length (word_from kind start air) ≡ word_bits kind
unfolding word_from
decoded_length kind start air = nearest_length (disagreements control (word_bits kind) (mother kind start air)) (word_bits kind)

decoded_bits : (kind start : ℕ) (air : List ℕ) → Bits (word_from kind start air)
unfolding word_from
decoded_bits kind start air = nearest_bits (disagreements control (word_bits kind) (mother kind start air)) (word_bits kind)

agreed : (g : Bool) (c d : Counts) → ◌≡◌ {A = Result Received Refusal} (Ok (Good c)) (Ok (checked g d)) → g ≡ true
agreed true c d e = refl
agreed false c d e = absurd cc

-- Good says that the 16 entries written after the data are the check of the data written; `check_good` is the other way
pub good_checks : (kind start : ℕ) (air word trellis word' trellis' : List ℕ) (counts : Counts) → Receives kind start air word trellis (Ok (Good counts)) word' trellis'
    → take 16 (drop (data_bits kind) word') ≡ check (take (data_bits kind) word')
good_checks kind start air word trellis word' trellis' counts r =
    ap (λ (l : List ℕ). take 16 (drop d l)) is ∙ ap (take 16) (drop-append-le d w rest (omega (arith, long))) ∙ take-append-le 16 (drop d w) rest (omega (arith, long, length-drop d w))
    ∙ good_check kind w (decoded_bits kind start air) (omega (arith, long)) said
    ∙ ap check (sym (ap (take d) is ∙ take-append-le d w rest (omega (arith, long))))
  where
    d : ℕ
    d = data_bits kind

    w : List ℕ
    w = word_from kind start air

    rest : List ℕ
    rest = drop (length w) word

    ok : (receive_refusal kind (length air) (length word) (length trellis) ≡ accepted) × (counts ≡ counts_of kind start air) × (word' ≡ written w word)
    ok = unrefused (good kind w) (counts_of kind start air) true counts r

    is : word' ≡ w ++ rest
    is = ok.2

    long : length w ≡ d + 20
    long = decoded_length kind start air ∙ (row kind (receive_accepts kind (length air) (length word) (length trellis) ok.0).known).word

    said : good kind w ≡ true
    said = agreed (good kind w) counts (counts_of kind start air) (received_done (good kind w) (counts_of kind start air) r ok.0).0
