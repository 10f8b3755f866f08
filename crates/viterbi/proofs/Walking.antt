-- Every walk back ends in state 0, and gives the decoded word.
-- Assumes nothing.
use mathlib.Core.Path.{◌≡◌, sym, ap, ◌∙◌}
use mathlib.Core.List.{List, [], ◌∷◌}
use mathlib.Core.Option.{some}
use Prim.Native.Nat.{ℕ, ◌*◌, ◌≤◌, ◌<◌}
use native.Mathlib.Omega.{arith}
use lib.ListN.{length}
use Rattle.base.specs.Bits.{disagrees, known, Bits}
use Rattle.base.proofs.BitLaws.{known_le}
use Rattle.trellis.specs.Nearest.{encode, distance, nearest, Candidate}
use Rattle.trellis.specs.Walk.{steps}
use Rattle.trellis.specs.Trellis.{Bounded}
use Rattle.trellis.proofs.Encoding.{Each, distance_most, distance_take, encode_length}
use Rattle.trellis.proofs.Winners.{nearest_same, nearest_wins}
use Rattle.trellis.proofs.Walk.{walk_ends}
use Rattle.trellis.proofs.Decoder.{steps_bounded, walk_nearest, walk_score}
use Rattle.convenc.specs.Generators.{outputs}
use Rattle.viterbi.specs.Decoding.{disagreements, decoded}
use Rattle.viterbi.specs.Walking.{steps_of, WalksBack}
use Rattle.viterbi.proofs.Codes.{outputs_length, outputs_bits}
use Rattle.viterbi.proofs.Counts.{total_le, each_known}

plain : (r : List ℕ) → Each (λ (a : ℕ). Unit {0}) r
plain [] = tt
plain (a ∷ r) = (tt, plain r)

-- a branch of k symbols costs k at most
pub few : (out : ℕ → List ℕ) (k : ℕ) → ((x : ℕ) → x < 32 → Bits (out x)) → (src : List ℕ) (n : ℕ) → Bounded k (steps disagrees out k src n)
few out k bits src n =
    steps_bounded disagrees out k k (λ (a : ℕ). Unit {0})
    (λ l h e x b. omega (arith, distance_most disagrees known l (out x) (each_known l) (bits x b), total_le known l known_le)) src (plain src) n

-- symbols beyond the steps cost nothing
pub far_used : (code : List (List ℕ)) (n : ℕ) (src v : List ℕ) → Candidate n v → distance disagrees src (encode (outputs code) 0 v) ≡ disagreements code n src v
far_used code n src v c =
    sym (distance_take disagrees (length code * n) src (encode (outputs code) 0 v)
    (omega (arith, encode_length (outputs code) (length code) (outputs_length code) 0 v, ap (λ (x : ℕ). length code * x) c.len)))

pub walks_back : (code : List (List ℕ)) (n : ℕ) (src : List ℕ) → length code * n ≤ length src → WalksBack code n src
walks_back code n src enough =
    record {
      ends = walk_ends (steps_of code n src);
      gives = walk_nearest disagrees (outputs code) (length code) (outputs_length code) (length code) src n enough bounded ∙ same;
      scores = walk_score disagrees (outputs code) (length code) (outputs_length code) (length code) src n enough bounded
          ∙ ap some (ap far same ∙ far_used code n src (decoded code n src) (nearest_wins (disagreements code n src) n).candidate);
    }
  where
    far : List ℕ → ℕ
    far v = distance disagrees src (encode (outputs code) 0 v)

    bounded : Bounded (length code) (steps_of code n src)
    bounded = few (outputs code) (length code) (λ x h. outputs_bits code x) src n

    same : nearest far n ≡ decoded code n src
    same = nearest_same far (disagreements code n src) n (far_used code n src)
