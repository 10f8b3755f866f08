-- What an encoder's loop holds after i bits, over the code: the state and the target that the definition gives for those bits.
-- Assumes nothing.
use mathlib.Core.Path.{◌≡◌, sym, ap, ap₂, subst, ◌∙◌}
use mathlib.Core.List.{List, [], ◌∷◌, ◌++◌, append-nil}
use Prim.Native.Nat.{ℕ, suc, ◌+◌, ◌*◌, ◌≤◌, ◌<◌}
use native.Mathlib.Nat.{mul-suc, mul-le-mul_left}
use native.Mathlib.Numerals.{add-one}
use native.Mathlib.Omega.{arith}
use lib.ListN.{length, take, drop, get_or, length-append}
use lib.Seq.{sets, sets-eq, length-sets, take-suc, take_at, drop-append-add, drop-drop, length-take-le}
use Rattle.base.specs.Bits.{Bits}
use Rattle.base.specs.Places.{written}
use Rattle.base.proofs.Lists.{written_length}
use Rattle.base.proofs.BitLaws.{bits_at, bits_only_bits, bits_only_yes}
use Rattle.base.specs.Refusal.{accepted}
use Rattle.trellis.specs.Nearest.{encode}
use Rattle.trellis.specs.private.Nearest.{after}
use Rattle.base.specs.Digits.{number}
use Rattle.convenc.specs.Generators.{outputs, delays, encode_refusal}
use Rattle.convenc.specs.private.Tapping.{CodeLaws, taps, newest}
use Rattle.trellis.proofs.Encoding.{encode_append}
use Rattle.convenc.proofs.Encoding.{encoded_length, outputs_length}
use Rattle.convenc.proofs.Delays.{Four, four_bits, delays_append, four_after, held_after, newest_more}
use Rattle.convenc.proofs.Refusing.{accepts}
use Rattle.convenc.proofs.Taps.{taps_outputs}

-- what is written goes on where it ended
pub written_on : (new old more : List ℕ) (at : ℕ) → at ≡ length new → length new + length more ≤ length old
    → sets (written new old) at more ≡ written (new ++ more) old
written_on new old more at e h =
    let l = written_length new old (omega arith) in
    sets-eq more (written new old) at (omega arith)
    ∙ ap₂ (λ (x y : List ℕ). x ++ more ++ y) (take_at new (drop (length new) old) at (sym e))
    (ap (λ (n : ℕ). drop (n + length more) (written new old)) e ∙ drop-append-add new (drop (length new) old) (length more)
    ∙ drop-drop (length more) (length new) old ∙ ap (λ (n : ℕ). drop n old) (sym (length-append new more)))

-- after i bits of the input: the delays and the target
pub record Running (code : List (List ℕ)) (d₀ src dst₀ : List ℕ) (i : ℕ) (d dst : List ℕ) : Type 0 where
  pub four : length d₀ ≡ 4
  pub fit : i ≤ length src
  pub state : d ≡ delays d₀ (take i src)
  pub target : dst ≡ written (encode (outputs code) (number d₀) (take i src)) dst₀

module _ {code : List (List ℕ)} {d₀ src dst₀ : List ℕ} {i : ℕ} {d dst : List ℕ} (run : Running code d₀ src dst₀ i d dst) where
  module _ (accept : encode_refusal (length code) d₀ src (length dst₀) ≡ accepted) where
    made : length (encode (outputs code) (number d₀) (take i src)) ≡ length code * i
    made = encoded_length code (number d₀) (take i src) ∙ ap (λ (n : ℕ). length code * n) (length-take-le i src run.fit)

    pub running_length : length dst ≡ length dst₀
    running_length =
        ap length run.target
        ∙ written_length (encode (outputs code) (number d₀) (take i src)) dst₀
        (omega (arith, made, mul-le-mul_left (length code) run.fit, (accepts (length code) d₀ src (length dst₀) accept).room))

    -- the outputs of one more bit have room
    pub running_room : i < length src → (length code * i + length code ≤ length dst) × (length dst ≡ length dst₀)
    running_room h = (
      omega (
        arith,
        running_length,
        mul-suc (length code) i,
        mul-le-mul_left {m = suc i} {n = length src} (length code) h,
        (accepts (length code) d₀ src (length dst₀) accept).room,
      ),
      running_length,
    )

    pub running_more : {rate own : ℕ} → own ≡ rate → CodeLaws rate code → i < length src → {d' dst' : List ℕ} → d' ≡ delays d (get_or src i 0 ∷ [])
        → dst' ≡ sets dst (own * i) (taps code (get_or src i 0) d) → Running code d₀ src dst₀ (i + 1) d' dst'
    running_more same laws h {d'} {dst'} next stored = record {
      four = run.four;
      fit = omega arith;
      state = next ∙ ap (λ (l : List ℕ). delays l (b ∷ [])) run.state ∙ delays_append d₀ (take i src) (b ∷ []) ∙ ap (delays d₀) (sym longer);
      target =
          stored ∙ ap (λ (r : ℕ). sets dst (r * i) (taps code b d)) (same ∙ laws.makes)
          ∙ ap₂ (λ (l o : List ℕ). sets l (length code * i) o) run.target (taps_outputs code laws.takes_the_bit b d (bits_at src bits i) here)
          ∙ written_on (encode (outputs code) (number d₀) (take i src)) dst₀ (outputs code (16 * b + number d)) (length code * i) (sym made)
          (omega (arith, made, outputs_length code (16 * b + number d), running_room h, running_length))
          ∙ ap (λ (l : List ℕ). written l dst₀) (sym joined);
    }
      where
        b : ℕ
        b = get_or src i 0

        bits : Bits src
        bits = (accepts (length code) d₀ src (length dst₀) accept).input

        longer : take (i + 1) src ≡ take i src ++ (b ∷ [])
        longer = ap (λ (n : ℕ). take n src) (add-one i) ∙ take-suc src i 0 h

        before : Bits (take i src)
        before = bits_only_bits i src (bits_only_yes i src bits)

        first : Four d₀
        first = four_bits d₀ run.four ((accepts (length code) d₀ src (length dst₀) accept).delayed (omega arith))

        here : Four d
        here = subst Four (sym run.state) (four_after d₀ (take i src) first before)

        joined : encode (outputs code) (number d₀) (take (i + 1) src) ≡ encode (outputs code) (number d₀) (take i src) ++ outputs code (16 * b + number d)
        joined =
            ap (encode (outputs code) (number d₀)) longer ∙ encode_append (outputs code) (number d₀) (take i src) (b ∷ [])
            ∙ ap (λ (l : List ℕ). encode (outputs code) (number d₀) (take i src) ++ l)
            (append-nil (outputs code (16 * b + after (number d₀) (take i src)))
            ∙ ap (λ (s : ℕ). outputs code (16 * b + s)) (sym (ap number run.state ∙ held_after d₀ (take i src) first before)))

-- ---- delays that are read from the input
-- before bit i, over the target dst that the loop began with
pub record Reading (code : List (List ℕ)) (src dst : List ℕ) (i : ℕ) (dst' : List ℕ) : Type 0 where
  pub past : 4 ≤ i
  pub kept : length dst' ≡ length dst
  -- an input with no fifth bit leaves the target as it was
  pub idle : length src ≤ 4 → dst' ≡ dst
  -- what the loop leaves, from any delays and any target that led there
  pub runs : 4 ≤ length src → (d₀ dst₀ : List ℕ) → length d₀ ≡ 4 → encode_refusal (length code) d₀ src (length dst₀) ≡ accepted
      → dst ≡ written (encode (outputs code) (number d₀) (take 4 src)) dst₀ → Running code d₀ src dst₀ i (newest src i) dst'

module _ {code : List (List ℕ)} {src dst : List ℕ} {i : ℕ} {dst' : List ℕ} (r : Reading code src dst i dst') where
  pub reading_more : {rate own : ℕ} → own ≡ rate → CodeLaws rate code → i < length src → {dst'' : List ℕ} → dst'' ≡ sets dst' (own * i) (taps code (get_or src i 0) (newest src i))
      → Reading code src dst (i + 1) dst''
  reading_more {own = own} same laws h stored = record {
    past = omega (arith, r.past);
    kept = ap length stored ∙ length-sets dst' (own * i) (taps code (get_or src i 0) (newest src i)) ∙ r.kept;
    idle = λ short. absurd (omega (arith, r.past));
    runs = λ k d₀ dst₀ l accept e.
        let next = running_more (r.runs k d₀ dst₀ l accept e) accept same laws h (newest_more src i) stored in
        record { four = l; fit = next.fit; state = next.state; target = next.target };
  }
