-- What is sent and received undamaged comes back: the word is the data's, nothing disagrees, and the check agrees.
-- Assumes nothing.
use mathlib.Core.Path.{◌≡◌, sym, ap, ap₂, ◌∙◌}
use mathlib.Core.List.{List}
use mathlib.Core.Bool.{Bool, true}
use Prim.Native.Nat.{ℕ, ◌≤◌}
use native.Mathlib.Omega.{arith}
use Rattle.std.specs.Prelude.{Result, Ok}
use lib.ListN.{length, take, drop, get_or}
use lib.Seq.{take_at, length-take-le, get_or-take}
use Rattle.base.specs.declared.Counts.{Counts}
use Rattle.base.specs.declared.Received.{Received}
use Rattle.base.specs.declared.Refusal.{Refusal}
use Rattle.base.specs.declared.Received.TheVariants.{Good}
use Rattle.base.specs.Refusal.{accepted, checked}
use Rattle.base.specs.Places.{written}
use Rattle.base.proofs.BitLaws.{bits_only_bits}
use Rattle.base.proofs.Lists.{written_length}
use Rattle.trellis.specs.Nearest.{Candidate}
use Rattle.convenc.specs.Generators.{control}
use Rattle.interleaver.specs.Interleaving.{place}
use Rattle.interleaver.proofs.Block.{block_within}
use Rattle.viterbi.specs.Decoding.{disagreements}
use Rattle.air.specs.Channel.{Undamaged}
use Rattle.stages.proofs.Passage as passing
use Rattle.stages.proofs.Entries.{done_sent, received_done}
use Rattle.errorcontrol_cp.specs.Kinds.{is_kind, data_bits, word_bits, air_symbols, interleaver_step}
use Rattle.errorcontrol_cp.specs.Sending.{word_of, sent, send_refusal, Sends}
use Rattle.errorcontrol_cp.specs.Receiving.{mother, word_from, counts_of, good, Receives}
use Rattle.errorcontrol_cp.specs.Hearing.{control_channel}
use Rattle.errorcontrol_cp.proofs.Rows.{row}
use Rattle.errorcontrol_cp.proofs.Refusals.{SendAccepted, send_accepts, receive_none}
use Rattle.errorcontrol_cp.proofs.Words.{word_candidate, word_good}
use Rattle.errorcontrol_cp.proofs.Demand.{sent_length, passage, arrival, kept_first}

module _ (kind : ℕ) (known : is_kind kind ≡ true) (start : ℕ) (w air : List ℕ) (candidate : Candidate (word_bits kind) w)
    (enough : air_symbols kind ≤ length air) (clean : Undamaged (control_channel kind start) w air) where
  pub word_back : word_from kind start air ≡ w
  unfolding word_from
  word_back =
      passing.word_back (passage kind known start) (λ l. l) air (mother kind start air) (arrival kind known start air enough) w candidate clean tt (kept_first kind known)

  -- nothing disagrees with the word that was sent
  pub none_disagree : counts_of kind start air ≡ record { disagreements = 0 }
  unfolding counts_of
  none_disagree =
      ap (λ (n : ℕ). record { disagreements = n }) (ap (disagreements control (word_bits kind) (mother kind start air)) word_back
      ∙ passing.none_disagree (passage kind known start) (λ l. l) air (mother kind start air) (arrival kind known start air enough) w candidate clean)

-- ---- a whole block
-- what was sent and done, received under the same start, is Good, disagrees with nothing, and is the word of the data
module _ (kind start : ℕ) (block air air' word word' trellis trellis' : List ℕ) (answer : Result Received Refusal)
    (sends : Sends kind start block air accepted air') (room : word_bits kind ≤ length word) (steps : word_bits kind ≤ length trellis)
    (receives : Receives kind start air' word trellis answer word' trellis') where
  used : List ℕ
  used = take (data_bits kind) block

  done : (send_refusal kind block (length air) ≡ accepted) × (air' ≡ written (sent kind start (word_of used)) air)
  unfolding used
  done = done_sent sends

  sendable : SendAccepted kind block (length air)
  sendable = send_accepts kind block (length air) done.0

  used_length : length used ≡ data_bits kind
  unfolding used
  used_length = length-take-le (data_bits kind) block sendable.fits.long

  air_length : length air' ≡ length air
  air_length = ap length done.1 ∙ written_length (sent kind start (word_of used)) air (omega (arith, sent_length kind start (word_of used), sendable.fits.room))

  as_sent : take (air_symbols kind) air' ≡ sent kind start (word_of used)
  as_sent =
      ap (take (air_symbols kind)) done.1
      ∙ take_at (sent kind start (word_of used)) (drop (length (sent kind start (word_of used))) air) (air_symbols kind) (sent_length kind start (word_of used))

  clean : Undamaged (control_channel kind start) (word_of used) air'
  clean j h =
      sym (get_or-take (air_symbols kind) air' at 0 (block_within (air_symbols kind) (interleaver_step kind) j h)) ∙ ap (λ (l : List ℕ). get_or l at 0) as_sent
    where
      at : ℕ
      at = place (air_symbols kind) (interleaver_step kind) j

  candidate : Candidate (word_bits kind) (word_of used)
  unfolding used
  candidate = word_candidate kind (row kind sendable.known) used (bits_only_bits (data_bits kind) block sendable.fits.plain) used_length

  back : word_from kind start air' ≡ word_of used
  back = word_back kind sendable.known start (word_of used) air' candidate (omega (arith, air_length, sendable.fits.room)) clean

  none : counts_of kind start air' ≡ record { disagreements = 0 }
  none = none_disagree kind sendable.known start (word_of used) air' candidate (omega (arith, air_length, sendable.fits.room)) clean

  heard : (answer ≡ Ok (checked (good kind (word_from kind start air')) (counts_of kind start air'))) × (word' ≡ written (word_from kind start air') word)
  heard =
      received_done (good kind (word_from kind start air')) (counts_of kind start air') receives
      (sym (receive_none kind (length air') (length word) (length trellis) sendable.known (omega (arith, air_length, sendable.fits.room)) room steps))

  pub round_trip_answer : answer ≡ Ok (Good (record { disagreements = 0 }))
  round_trip_answer =
      heard.0 ∙ ap₂ (λ (t : Bool) (c : Counts). Ok (checked t c)) (ap (good kind) back ∙ word_good kind used used_length) none

  pub round_trip_word : word' ≡ written (word_of (take (data_bits kind) block)) word
  unfolding used
  round_trip_word = heard.1 ∙ ap (λ (w : List ℕ). written w word) back
