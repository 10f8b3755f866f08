-- The chains from end to end: what the stages leave together, by a kind's numbers and for the kind.
-- Assumes nothing.
use mathlib.Core.Path.{◌≡◌, sym, ap, ap₂, ◌∙◌, subst}
use mathlib.Core.List.{List, [], ◌∷◌, ◌++◌}
use mathlib.Core.Bool.{true}
use Prim.Native.Nat.{ℕ, ◌+◌, ◌*◌, ◌≤◌}
use native.Mathlib.Omega.{arith}
use lib.ListN.{length, take, drop, replicate, length-replicate}
use lib.Dec.{eqb}
use lib.Seq.{take-append-le, take-length}
use Rattle.std.specs.Prelude.{Ok}
use Rattle.base.specs.declared.Received.{Received}
use Rattle.base.specs.Refusal.{accepted, unless, checked}
use Rattle.base.specs.Bits.{Bits, bits_only, ERASED}
use Rattle.base.specs.Places.{written}
use Rattle.base.specs.Digits.{number}
use Rattle.base.proofs.BitLaws.{bits_only_bits}
use Rattle.trellis.specs.Nearest.{encode}
use Rattle.trellis.proofs.Words.{zeros_bits}
use Rattle.trellis.proofs.Winners.{nearest_length}
use Rattle.crc16.specs.Crc.{register, OK}
use Rattle.convenc.specs.Generators.{control, outputs, encode_refusal}
use Rattle.convenc.proofs.Calls.{encode_accepts}
use Rattle.convenc.proofs.Encoding.{encoded_bits, encoded_length}
use Rattle.base.proofs.Moves.{scatter_length}
use Rattle.puncturing.specs.Puncturing.{kept_place, depunctured}
use Rattle.interleaver.specs.Interleaving.{deinterleaved}
use Rattle.scrambler.specs.Scrambling.{descrambled}
use Rattle.viterbi.specs.Decoding.{decoded, disagreements, cleared}
use Rattle.viterbi.specs.private.Finding.{Finds}
use Rattle.stages.proofs.Calls.{whole, front}
use Rattle.stages.proofs.Entries.{receives_done}
use Rattle.errorcontrol_cp.specs.Kinds.{data_bits, air_symbols, interleaver_step}
use Rattle.errorcontrol_cp.specs.private.Kinds.{Numbers}
use Rattle.errorcontrol_cp.specs.private.Blocks.{sent_by, mother_by, Settles}
use Rattle.errorcontrol_cp.specs.Sending.{word_of, coded, sent}
use Rattle.errorcontrol_cp.specs.Receiving.{coded_from, mother, word_from, counts_of, good, receive_refusal, Receives}
use Rattle.errorcontrol_cp.proofs.Words.{word_length, word_bits_lem}
use Rattle.errorcontrol_cp.proofs.Demand.{sent_length}

-- ---- the word over the front of a work array, then its mother code
module _ (block word : List ℕ) (was : word ≡ word_of block) where
  pub word_size : length word ≡ length block + 20
  word_size = ap length was ∙ word_length block

  pub mother_made : (work delayed mother mother' : List ℕ) → bits_only (length block) block ≡ true → length block ≤ 268 → delayed ≡ 0 ∷ 0 ∷ 0 ∷ 0 ∷ [] → length mother ≡ 4 * (length block + 20)
      → mother' ≡ unless (encode_refusal 4 delayed (take (length block + 20) (word ++ drop (length block + 20) work)) (length mother))
      (written (encode (outputs control) (number delayed) (take (length block + 20) (word ++ drop (length block + 20) work))) mother) mother
      → mother' ≡ encode (outputs control) 0 (word_of block)
  mother_made work delayed mother mother' plain most fresh size e =
      whole (encode_refusal 4 (0 ∷ 0 ∷ 0 ∷ 0 ∷ []) word (length mother)) (encode (outputs control) 0 word) mother mother'
      (encode_accepts 4 (0 ∷ 0 ∷ 0 ∷ 0 ∷ []) word (length mother) (omega (arith, word_size)) (omega (arith, word_size))
      (subst Bits (sym was) (word_bits_lem block (subst Bits (take-length block) (bits_only_bits (length block) block plain)))) (zeros_bits 4))
      (encoded_length control 0 word ∙ ap (λ (n : ℕ). 4 * n) word_size ∙ sym size)
      (e ∙ ap₂ (λ (d w : List ℕ). unless (encode_refusal 4 d w (length mother)) (written (encode (outputs control) (number d) w) mother) mother) fresh
      (front (length block + 20) word work word_size))
      ∙ ap (encode (outputs control) 0) was

-- and what a block's mother code is
module _ (block mother : List ℕ) (was : mother ≡ encode (outputs control) 0 (word_of block)) where
  pub mother_size : length mother ≡ 4 * (length block + 20)
  mother_size = ap length was ∙ encoded_length control 0 (word_of block) ∙ ap (λ (x : ℕ). 4 * x) (word_length block)

  pub mother_bits : Bits mother
  mother_bits = subst Bits (sym was) (encoded_bits control 0 (word_of block))

-- ---- the mother symbols over the front of erasures
pub symbols_made : (n k a start mode count step from : ℕ) (air work made : List ℕ) → mode ≡ 0 → count ≡ k → step ≡ a → from ≡ start
    → take (4 * n) work ≡ replicate (4 * n) ERASED
    → made ≡ depunctured mode count (deinterleaved count step (descrambled from (take count air))) (take (4 * n) work)
    → take (4 * n) (made ++ drop (4 * n) work) ≡ mother_by n k a start air
symbols_made n k a start mode count step from air work made p q r s blank was = front (4 * n) made work size ∙ is
  where
    is : made ≡ mother_by n k a start air
    is = was ∙ rw (p, q, r, s) (ap (depunctured 0 k (deinterleaved k a (descrambled start (take k air)))) blank)

    size : length made ≡ 4 * n
    size =
        ap length is ∙ scatter_length (kept_place 0) k (deinterleaved k a (descrambled start (take k air))) (replicate (4 * n) ERASED)
        ∙ length-replicate (4 * n) ERASED

-- ---- the decoder's word is judged by its data and check
pub settled : (d n : ℕ) (symbols word word' trellis trellis' : List ℕ) (value : ℕ) → d + 20 ≡ n → Finds control n symbols word word' trellis trellis' value
    → (answer : Received) → answer ≡ checked (eqb (register 0xffff (take (d + 16) word')) OK) (record { disagreements = value })
    → Settles d n symbols word trellis answer word' trellis'
settled d n symbols word word' trellis trellis' value tail does answer e =
    record {
      answers = e ∙ ap₂ (λ (w : List ℕ) (x : ℕ). checked (eqb (register 0xffff w) OK) (record { disagreements = x })) front_kept does.counts;
      writes = does.writes;
      clears = does.clears;
    }
  where
    front_kept : take (d + 16) word' ≡ take (d + 16) (decoded control n symbols)
    front_kept =
        ap (take (d + 16)) does.writes
        ∙ take-append-le (d + 16) (decoded control n symbols) (drop (length (decoded control n symbols)) word)
        (omega (arith, nearest_length (disagreements control n symbols) n))

-- ---- a kind's numbers are the kind's
module _ (kind d n k a start : ℕ) (is : Numbers kind d n k a) where
  pub sent_is : (w : List ℕ) → sent_by k a start w ≡ sent kind start w
  unfolding sent coded
  sent_is w = ap₂ (λ (x y : ℕ). sent_by x y start w) is.air is.step

  pub mother_is : (air : List ℕ) → mother_by n k a start air ≡ mother kind start air
  unfolding mother coded_from
  mother_is air =
      ap₂ (λ (x y : ℕ). mother_by n x y start air) is.air is.step ∙ ap (λ (x : ℕ). mother_by x (air_symbols kind) (interleaver_step kind) start air) is.word

  -- what was sent over the front of a target
  pub sent_over : (block air new : List ℕ) → new ≡ sent_by k a start (word_of (take d block)) → new ++ drop k air ≡ written (sent kind start (word_of (take (data_bits kind) block))) air
  sent_over block air new e =
      ap₂ (λ (x : List ℕ) (y : ℕ). x ++ drop y air)
      (e ∙ sent_is (word_of (take d block)) ∙ ap (λ (x : ℕ). sent kind start (word_of (take x block))) is.block)
      (is.air ∙ sym (sent_length kind start (word_of (take (data_bits kind) block))))

  -- what is received
  pub receives : (air word trellis : List ℕ) {word' trellis' : List ℕ} {answer : Received} → receive_refusal kind (length air) (length word) (length trellis) ≡ accepted
      → Settles d n (mother_by n k a start air) word trellis answer word' trellis' → Receives kind start air word trellis (Ok answer) word' trellis'
  unfolding word_from counts_of good
  receives air word trellis ok s =
      receives_done (good kind (word_from kind start air)) (counts_of kind start air) ok (
        s.answers
            ∙ ap₂ (λ (m : List ℕ) (x : ℕ). checked (eqb (register 0xffff (take (d + 16) (decoded control x m))) OK) (record { disagreements = disagreements control x m (decoded control x m) })) (mother_is air) is.word
            ∙ ap (λ (x : ℕ). checked (eqb (register 0xffff (take (x + 16) (word_from kind start air))) OK) (counts_of kind start air)) is.block,
        s.writes ∙ ap₂ (λ (m : List ℕ) (x : ℕ). written (decoded control x m) word) (mother_is air) is.word,
        s.clears ∙ ap (λ (x : ℕ). cleared x trellis) is.word,
      )
