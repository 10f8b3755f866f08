-- How a word and its distance pass through the stages: for any code, any places and any start.
-- Assumes nothing.
use mathlib.Core.Path.{◌≡◌, sym, ap, ◌∙◌}
use mathlib.Core.List.{List}
use Prim.Native.Nat.{ℕ, ◌+◌, ◌*◌, ◌%◌, ◌<◌}
use native.Mathlib.Omega.{arith}
use lib.ListN.{length, get_or}
use Rattle.base.specs.Bits.{Bits, ERASED, disagrees}
use Rattle.base.specs.Places.{Apart}
use Rattle.base.specs.private.Places.{Within}
use Rattle.base.proofs.BitLaws.{bits_at}
use Rattle.trellis.specs.Nearest.{encode, Candidate}
use Rattle.convenc.specs.Generators.{outputs}
use Rattle.convenc.proofs.Encoding.{encoded_bits}
use Rattle.scrambler.specs.Scrambling.{output, descrambled_symbol}
use Rattle.scrambler.proofs.Outputs.{output_lt}
use Rattle.scrambler.proofs.Blocks.{symbol_bit, symbol_disagrees}
use Rattle.viterbi.specs.Decoding.{decoded, disagreements}
use Rattle.viterbi.specs.Hearing.{mother_code}
use Rattle.viterbi.proofs.Promises.{Leading, mother_weighs, decoded_undamaged}
use Rattle.air.specs.Channel.{Channel, Undamaged, hard}
use Rattle.air.proofs.Channel.{Weighs, Lawful, undamaged_free}
use Rattle.air.proofs.Hard.{Any, hard_lawful}
use Rattle.stages.proofs.Route.{Missed, Route, route_distance, route_known}

-- a chain's stages onto the air: carrier j takes the mother symbol at `at j` to the air's place j, where it is sent scrambled
pub record Passage (code : List (List ℕ)) (n start carriers : ℕ) (at place : ℕ → ℕ) (sent : List ℕ → List ℕ) : Type 0 where
  pub apart : Apart at carriers
  pub within : Within at carriers (length code * n)
  pub plain : (w : List ℕ) → Bits (sent w)
  pub sends : (w : List ℕ) → length w ≡ n → (j : ℕ) → j < carriers → get_or (sent w) (place j) 0 ≡ (get_or (encode (outputs code) 0 w) (at j) 0 + output start (place j)) % 2

-- and its stages off the air: from the symbols heard to those that the decoder is given
pub record Arrival (code : List (List ℕ)) (n start carriers : ℕ) (at place : ℕ → ℕ) (heard mother : List ℕ) : Type 0 where
  pub long : length mother ≡ length code * n
  pub given : (j : ℕ) → j < carriers → get_or mother (at j) 0 ≡ descrambled_symbol (get_or heard (place j) 0) (output start (place j))
  pub missed : (x : ℕ) → x < length code * n → Missed at carriers x → get_or mother x 0 ≡ ERASED

-- where bits are sent, the laws of channels hold
pub bits_lawful : (n carriers : ℕ) (place : ℕ → ℕ) (sent read : List ℕ → List ℕ) → ((w : List ℕ) → Bits (sent w))
    → Lawful (hard n carriers place (λ w x. get_or (sent w) x 0) (λ air x. get_or (read air) x 0)) Any
bits_lawful n carriers place sent read plain =
    hard_lawful n carriers place (λ w x. get_or (sent w) x 0) (λ (air : List ℕ) x. get_or (read air) x 0) (λ w j h. bits_at (sent w) (plain w) (place j))

module _ {code : List (List ℕ)} {n start carriers : ℕ} {at place : ℕ → ℕ} {sent : List ℕ → List ℕ} (p : Passage code n start carriers at place sent)
    (read : List ℕ → List ℕ) where
  abbrev channel : Channel (List ℕ) ℕ
  channel = hard n carriers place (λ w x. get_or (sent w) x 0) (λ air x. get_or (read air) x 0)

  module _ (air mother : List ℕ) (a : Arrival code n start carriers at place (read air) mother) where
    route : Route (mother_code code n) channel at (λ r j. descrambled_symbol r (output start (place j))) mother air
    route =
        record {
          apart = p.apart;
          within = p.within;
          given = a.given;
          undone = λ w e j h r. symbol_disagrees r (get_or (encode (outputs code) 0 w) (at j) 0) (output start (place j))
              (bits_at (encode (outputs code) 0 w) (encoded_bits code 0 w) (at j)) (output_lt start (place j))
              ∙ ap (disagrees r) (sym (p.sends w e j h));
          missed = λ x h f y. ap (λ (s : ℕ). disagrees s y) (a.missed x h f);
        }

    -- the decoder's distance is that of the air
    pub weighs : Weighs channel air (disagreements code n mother)
    weighs w e = mother_weighs code n mother (omega (arith, a.long)) w e ∙ route_distance route w e

    -- ---- undamaged
    module _ (w : List ℕ) (candidate : Candidate n w) (clean : Undamaged channel w air) where
      pub none_disagree : disagreements code n mother w ≡ 0
      none_disagree = weighs w candidate.len ∙ undamaged_free channel Any (bits_lawful n carriers place sent read p.plain) air w clean

      -- where the first output of every step is carried, the word comes back
      pub word_back : Leading code → ((t : ℕ) → t < n → (j : ℕ) × (j < carriers) × (at j ≡ length code * t)) → decoded code n mother ≡ w
      word_back leads first =
          decoded_undamaged code leads n mother w candidate (omega (arith, a.long))
          (λ t h. route_known route (λ r. r < 2) w clean
          (λ j l. omega (arith, symbol_bit (get_or (sent w) (place j) 0) (output start (place j)) (bits_at (sent w) (p.plain w) (place j)) (output_lt start (place j))))
          (length code * t) (first t h)) none_disagree
