-- The two chains step by step: what their callees leave makes what the definitions say.
-- Assumes nothing.
use mathlib.Core.Path.{◌≡◌, sym, ap, ap₂, ◌∙◌, subst}
use mathlib.Core.List.{List, ◌++◌}
use mathlib.Core.Bool.{Bool, true, not}
use Prim.Native.Nat.{ℕ, ◌≤◌}
use native.Mathlib.Omega.{arith}
use lib.ListN.{length, take, drop}
use lib.Seq.{take_at, drop_at, length-take-le}
use lib.Dec.{ltb}
use borrow.Author.Tests.{ltb-false, le-ltb, not-false}
use Rattle.base.specs.declared.Refusal.TheVariants.{Short, Room, Bit}
use Rattle.base.specs.Refusal.{BIT, accepted, when}
use Rattle.base.proofs.Refusals.{passed}
use Rattle.base.specs.Bits.{Bits, bits_only}
use Rattle.base.specs.Digits.{digits, number}
use Rattle.base.specs.Places.{written}
use Rattle.base.proofs.BitLaws.{bits_only_yes, bits_only_whole}
use Rattle.base.proofs.DigitLaws.{digits_length, digits_bits}
use Rattle.base.proofs.Lists.{written_length}
use Rattle.scrambler.specs.Scrambling.{scrambled, descrambled}
use Rattle.scrambler.proofs.Blocks.{scrambled_length, scrambled_bits, descrambled_length, descrambled_bits}
use Rattle.rm3014.specs.declared.Verdict.{Verdict}
use Rattle.rm3014.specs.Code.{code_word}
use Rattle.rm3014.specs.Verdict.{verdict}
use Rattle.errorcontrol_aach.specs.Sending.{send_refusal, sent}
use Rattle.errorcontrol_aach.specs.Receiving.{receive_refusal, verdict_from}
use Rattle.errorcontrol_aach.proofs.Numbers.{front_bits}

-- ---- sending: the word is written, and its 30 bits are scrambled where they stand
module _ (word : ℕ) (air wrote : List ℕ) (room : 30 ≤ length air) (w : wrote ≡ written (digits 30 word) air) where
  pub wrote_length : length wrote ≡ length air
  wrote_length = ap length w ∙ written_length (digits 30 word) air (omega (arith, digits_length 30 word))

  wrote_front : take 30 wrote ≡ digits 30 word
  wrote_front = ap (take 30) w ∙ take_at (digits 30 word) (drop (length (digits 30 word)) air) 30 (digits_length 30 word)

  wrote_rest : drop 30 wrote ≡ drop 30 air
  wrote_rest =
      ap (drop 30) w ∙ drop_at (digits 30 word) (drop (length (digits 30 word)) air) 30 (digits_length 30 word)
      ∙ ap (λ (n : ℕ). drop n air) (digits_length 30 word)

  pub wrote_bits : Bits (take 30 wrote)
  wrote_bits = subst Bits (sym wrote_front) (digits_bits 30 word)

  pub sent_made : (start : ℕ) (bits block : List ℕ) → word ≡ code_word (number (take 14 bits)) → block ≡ scrambled start (take 30 wrote)
      → block ++ drop 30 wrote ≡ written (sent start bits) air
  unfolding sent
  sent_made start bits block c e =
      let l : 30 ≡ length (scrambled start (digits 30 word)) = sym (scrambled_length start (digits 30 word) ∙ digits_length 30 word) in
      ap₂ (λ (x y : List ℕ). x ++ y) (e ∙ ap (scrambled start) wrote_front) (wrote_rest ∙ ap (λ (n : ℕ). drop n air) l)
      ∙ ap (λ (x : ℕ). written (scrambled start (digits 30 x)) air) c

-- ---- receiving: the first 30 entries are descrambled, and the number that they say is judged
module _ (start : ℕ) (air block : List ℕ) (enough : 30 ≤ length air) (only : bits_only 30 air ≡ true) (b : block ≡ descrambled start (take 30 air)) where
  pub block_length : length block ≡ 30
  block_length = ap length b ∙ descrambled_length start (take 30 air) ∙ length-take-le 30 air enough

  pub block_only : bits_only (length block) block ≡ true
  block_only =
      bits_only_yes (length block) block
      (subst Bits (sym (b ∙ descrambled_bits start (take 30 air) (front_bits 30 30 air only (omega arith) enough))) (scrambled_bits start (take 30 air)))

  pub judged_received : (n : ℕ) (v : Verdict) → n ≡ number block → v ≡ verdict n → v ≡ verdict_from start air
  unfolding verdict_from
  judged_received n v e g = g ∙ ap verdict (e ∙ ap number b)

-- ---- the refusals
-- what is not refused has what the chain asks
pub send_accepted : (bits : List ℕ) (room : ℕ) → send_refusal bits room ≡ accepted → (14 ≤ length bits) × (30 ≤ room) × (bits_only 14 bits ≡ true)
send_accepted bits room e =
    let long = passed (ltb (length bits) 14) Short _ e in
    let wide = passed (ltb room 30) Room _ long.1 in
    (ltb-false (length bits) 14 long.0, ltb-false room 30 wide.0, not-false (bits_only 14 bits) (passed (not (bits_only 14 bits)) Bit accepted wide.1).0)

pub receive_accepted : (air : List ℕ) → receive_refusal air ≡ accepted → (30 ≤ length air) × (bits_only 30 air ≡ true)
receive_accepted air e =
    let long = passed (ltb (length air) 30) Short _ e in
    (ltb-false (length air) 30 long.0, not-false (bits_only 30 air) (passed (not (bits_only 30 air)) Bit accepted long.1).0)

-- the test of the front decides, where there is enough
pub receive_by : (air : List ℕ) (plain : Bool) → 30 ≤ length air → plain ≡ bits_only (length (take 30 air)) (take 30 air)
    → when (not plain) BIT accepted ≡ receive_refusal air
receive_by air plain h e = simp (le-ltb (length air) 30 h) (ap (λ (t : Bool). when (not t) BIT accepted) (e ∙ bits_only_whole 30 air h))
