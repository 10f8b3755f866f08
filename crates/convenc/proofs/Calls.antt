-- What a caller of an encoder uses: when it accepts, what it then leaves, and that two calls in a row are one over the joined input.
-- Assumes nothing.
use mathlib.Core.Path.{◌≡◌, refl, sym, ap, subst, ◌∙◌}
use mathlib.Core.List.{List, [], ◌∷◌, ◌++◌}
use Prim.Native.Nat.{ℕ, ◌*◌, ◌≤◌}
use native.Mathlib.Omega.{arith}
use lib.ListN.{length}
use Rattle.base.specs.Refusal.{Owed, accepted}
use Rattle.base.specs.Bits.{Bits}
use Rattle.base.specs.Places.{written}
use Rattle.base.proofs.BitLaws.{bits_only_yes}
use Rattle.trellis.specs.Nearest.{encode}
use Rattle.base.specs.Digits.{number}
use Rattle.convenc.specs.Generators.{speech, outputs, delays, encode_refusal, Encoded}
use Rattle.convenc.specs.private.Generators.{InTurn}
use Rattle.convenc.proofs.Delays.{Four, four_after, held_after}
use Rattle.trellis.proofs.Encoding.{encode_append}
use Rattle.convenc.proofs.Refusing.{accepts, refuses_none}

-- bits, few enough and with room for their outputs, are accepted
pub encode_accepts : (rate : ℕ) (d src : List ℕ) (dst : ℕ) → length src ≤ 4096 → rate * length src ≤ dst → Bits src → Bits d → encode_refusal rate d src dst ≡ accepted
encode_accepts rate d [] dst limit room input delayed = refl
encode_accepts rate d (b ∷ src) dst limit room input delayed =
    sym (refuses_none rate d (b ∷ src) dst (λ e. omega arith) limit room (bits_only_yes (length (b ∷ src)) (b ∷ src) input) (bits_only_yes 4 d delayed))

-- what an encoder that accepts leaves
pub encodes : (code : List (List ℕ)) (d src dst : List ℕ) (answer : Owed) (d' dst' : List ℕ) → Encoded code d src dst answer d' dst'
    → encode_refusal (length code) d src (length dst) ≡ accepted
    → (answer ≡ accepted) × (d' ≡ delays d src) × (dst' ≡ written (encode (outputs code) (number d) src) dst)
encodes code d src dst answer d' dst' e a = (e.answered ∙ a, rw a at e.state, rw a at e.target)

-- a call that goes on from where another left off
pub two_calls : (code : List (List ℕ)) (d v w : List ℕ) → Four d → Bits v
    → encode (outputs code) (number d) v ++ encode (outputs code) (number (delays d v)) w ≡ encode (outputs code) (number d) (v ++ w)
two_calls code d v w f b =
    ap (λ (s : ℕ). encode (outputs code) (number d) v ++ encode (outputs code) s w) (held_after d v f b) ∙ sym (encode_append (outputs code) (number d) v w)

-- four delays of an encoder that has taken nothing
abbrev pub clear : List ℕ
clear = 0 ∷ 0 ∷ 0 ∷ 0 ∷ []

clear_four : Four clear
clear_four = record { len = refl; bits = (omega arith, (omega arith, (omega arith, (omega arith, tt)))) }

-- one new encoder that is lent twice, to calls that a new encoder would accept
module _ (v w x x' d e : List ℕ) (one : Owed) (new : d ≡ clear) (first : Encoded speech d v x one e x') (open-first : encode_refusal 3 clear v (length x) ≡ accepted) where
  left : (one ≡ accepted) × (e ≡ delays clear v) × (x' ≡ written (encode (outputs speech) 0 v) x)
  left = encodes speech clear v x one e x' (subst (λ (l : List ℕ). Encoded speech l v x one e x') new first) open-first

  input : Bits v
  input = (accepts 3 clear v (length x) open-first).input

  -- the second call is accepted too
  pub still_accepts : (dst : ℕ) → encode_refusal 3 clear w dst ≡ accepted → encode_refusal 3 e w dst ≡ accepted
  still_accepts dst open-second =
      let further = accepts 3 clear w dst open-second in
      let held_on : Four e = subst Four (sym left.1) (four_after clear v clear_four input) in
      encode_accepts 3 e w dst further.limit further.room further.input held_on.bits

  -- the two targets
  pub in_turn : (y y' f : List ℕ) (two : Owed) → Encoded speech e w y two f y' → encode_refusal 3 clear w (length y) ≡ accepted → InTurn v w x x' y y'
  in_turn y y' f two second open-second =
      let right = encodes speech e w y two f y' second (still_accepts (length y) open-second) in
      record {
        before = left.2;
        beyond = right.2 ∙ ap (λ (s : ℕ). written (encode (outputs speech) s w) y) (ap number left.1 ∙ held_after clear v clear_four input);
      }
