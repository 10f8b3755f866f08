-- What was sent is received under the same start: Clean, and with one wrong bit Mended at its place, and with two Beyond.
-- Assumes nothing.
use mathlib.Core.Path.{◌≡◌, refl, sym, ap, ap₂, ◌∙◌, subst}
use mathlib.Core.List.{List, [], ◌∷◌, ◌++◌}
use mathlib.Core.Bool.{Bool, true, false, not}
use Prim.Native.Nat.{ℕ, zero, suc, ◌-◌, ◌^◌, ◌≤◌, ◌<◌}
use native.Mathlib.Nat.{mod-eq_of_lt}
use native.Mathlib.Omega.{arith}
use lib.Dec.{eqb}
use lib.ListN.{length, take, drop, get_or, set, length-append, get_or-append}
use lib.Seq.{ext_get_or, get_or-set_same, get_or-set_other, set-append_left, take_at}
use borrow.Author.Tests.{eqb-true, eqb-false, lt-ltb, le-ltb}
use Rattle.std.specs.Prelude.{Ok}
use Rattle.base.specs.Refusal.{SHORT, BIT, accepted, when, valued}
use Rattle.base.specs.Bits.{both, Bits, bits_only}
use Rattle.base.specs.Digits.{digits, number}
use Rattle.base.specs.Places.{written}
use Rattle.base.proofs.BitLaws.{two_bits, bits_at}
use Rattle.base.proofs.DigitLaws.{digits_length, digits_bits, number_digits}
use Rattle.linear.specs.Linear.{turned}
use Rattle.scrambler.specs.Scrambling.{output, descrambled_symbol, descrambled}
use Rattle.scrambler.proofs.Outputs.{output_lt}
use Rattle.scrambler.proofs.Blocks.{scrambled_length, scrambled_bits, descrambled_length, descrambled_at, descrambled_scrambled, descrambled_bits}
use Rattle.rm3014.specs.Code.{code_word, data_of}
use Rattle.rm3014.specs.Verdict.{verdict}
use Rattle.rm3014.specs.declared.Verdict.TheVariants.{Clean, Mended, Beyond}
use Rattle.rm3014.proofs.CodeLaws.{code_lt}
use Rattle.rm3014.proofs.VerdictLaws as rm
use Rattle.errorcontrol_aach.specs.Sending.{sent}
use Rattle.errorcontrol_aach.specs.Receiving.{verdict_from, answer_of}
use Rattle.errorcontrol_aach.specs.Hearing.{flipped}
use Rattle.errorcontrol_aach.proofs.Numbers.{front_lt, flipped_length, flipped_bits, number_flipped}

-- ---- a flipped bit stays flipped through the scrambling
symbol_flipped : (r o : ℕ) → r < 2 → o < 2 → descrambled_symbol (1 - r) o ≡ 1 - descrambled_symbol r o
symbol_flipped = two_bits (λ r o. descrambled_symbol (1 - r) o ≡ 1 - descrambled_symbol r o) refl refl refl refl

descrambled_flipped : (start p : ℕ) (b : List ℕ) → Bits b → 0 < p → p ≤ length b → descrambled start (flipped p b) ≡ flipped p (descrambled start b)
descrambled_flipped start p b bits h k =
    ext_get_or 0 (descrambled start (flipped p b)) (flipped p (descrambled start b))
    (descrambled_length start (flipped p b) ∙ flipped_length p b ∙ sym (flipped_length p (descrambled start b) ∙ descrambled_length start b))
    (λ i l. at i (omega (arith, descrambled_length start (flipped p b), flipped_length p b)))
  where
    d : List ℕ
    d = descrambled start b

    same : (i : ℕ) → i < length b → (t : Bool) → eqb i (p - 1) ≡ t
        → descrambled_symbol (get_or (flipped p b) i 0) (output start i) ≡ get_or (flipped p d) i 0
    same i l true e =
        let q = eqb-true i (p - 1) e in
        let new : get_or (flipped p b) i 0 ≡ 1 - get_or b i 0 =
        ap (λ (x : ℕ). get_or (flipped p b) x 0) q ∙ get_or-set_same b (p - 1) (1 - get_or b (p - 1) 0) 0 (omega arith) ∙ ap (λ (x : ℕ). 1 - get_or b x 0) (sym q) in
        ap (λ (x : ℕ). descrambled_symbol x (output start i)) new ∙ symbol_flipped (get_or b i 0) (output start i) (bits_at b bits i) (output_lt start i)
        ∙ ap (λ (x : ℕ). 1 - x) (sym (descrambled_at start b i l)) ∙ ap (λ (x : ℕ). 1 - get_or d x 0) q
        ∙ sym (ap (λ (x : ℕ). get_or (flipped p d) x 0) q ∙ get_or-set_same d (p - 1) (1 - get_or d (p - 1) 0) 0 (omega (arith, descrambled_length start b)))
    same i l false e =
        ap (λ (x : ℕ). descrambled_symbol x (output start i)) (get_or-set_other b (p - 1) i (1 - get_or b (p - 1) 0) 0 (eqb-false i (p - 1) e))
        ∙ sym (get_or-set_other d (p - 1) i (1 - get_or d (p - 1) 0) 0 (eqb-false i (p - 1) e) ∙ descrambled_at start b i l)

    at : (i : ℕ) → i < length b → get_or (descrambled start (flipped p b)) i 0 ≡ get_or (flipped p d) i 0
    at i l = descrambled_at start (flipped p b) i (omega (arith, flipped_length p b)) ∙ same i l (eqb i (p - 1)) refl

-- ---- 30 air bits and what stands behind them
flipped_front : (p : ℕ) (air rest : List ℕ) → 0 < p → p ≤ length air → flipped p (air ++ rest) ≡ flipped p air ++ rest
flipped_front p air rest h k =
    ap (λ (x : ℕ). set (air ++ rest) (p - 1) (1 - x)) (get_or-append air rest 0 (p - 1) (omega arith))
    ∙ set-append_left air rest (p - 1) (1 - get_or air (p - 1) 0) (omega arith)

front_only : (n : ℕ) (air rest : List ℕ) → Bits air → length air ≡ n → bits_only n (air ++ rest) ≡ true
front_only zero air rest b e = refl
front_only (suc n) [] rest b e = absurd (omega arith)
front_only (suc n) (x ∷ air) rest b e = ap₂ both (lt-ltb x 2 b.0) (front_only n air rest b.1 (omega arith))

answer_front : (start : ℕ) (air rest : List ℕ) → Bits air → length air ≡ 30 → answer_of start (air ++ rest) ≡ Ok (verdict (number (descrambled start air)))
unfolding verdict_from
answer_front start air rest b e =
    ap₂ (λ (t u : Bool). valued (when t SHORT (when (not u) BIT accepted)) (verdict_from start (air ++ rest)))
    (le-ltb (length (air ++ rest)) 30 (omega (arith, length-append air rest))) (front_only 30 air rest b e)
    ∙ ap (λ (l : List ℕ). Ok (verdict (number (descrambled start l)))) (take_at air rest 30 e)

number_received : (start p : ℕ) (air : List ℕ) → Bits air → length air ≡ 30 → 0 < p → p ≤ 30
    → number (descrambled start (flipped p air)) ≡ turned 30 p (number (descrambled start air))
number_received start p air b e h k =
    let l : length (descrambled start air) ≡ 30 = descrambled_length start air ∙ e in
    ap number (descrambled_flipped start p air b h (omega arith))
    ∙ number_flipped p (descrambled start air) (subst Bits (sym (descrambled_bits start air b)) (scrambled_bits start air)) h (omega arith)
    ∙ ap (λ (n : ℕ). turned n p (number (descrambled start air))) l

-- ---- what was sent
pub sent_length : (start : ℕ) (bits : List ℕ) → length (sent start bits) ≡ 30
unfolding sent
sent_length start bits =
    scrambled_length start (digits 30 (code_word (number (take 14 bits)))) ∙ digits_length 30 (code_word (number (take 14 bits)))

pub sent_bits : (start : ℕ) (bits : List ℕ) → Bits (sent start bits)
unfolding sent
sent_bits start bits = scrambled_bits start (digits 30 (code_word (number (take 14 bits))))

module _ (start : ℕ) (bits old : List ℕ) (enough : 14 ≤ length bits) (only : bits_only 14 bits ≡ true) where
  input_lt : number (take 14 bits) < 2 ^ 14
  input_lt = front_lt 14 14 bits only (omega arith) enough

  word_received : number (descrambled start (sent start bits)) ≡ code_word (number (take 14 bits))
  unfolding sent
  word_received =
      ap number (descrambled_scrambled start (digits 30 (code_word (number (take 14 bits)))) (digits_bits 30 (code_word (number (take 14 bits)))))
      ∙ number_digits 30 (code_word (number (take 14 bits))) ∙ mod-eq_of_lt (code_lt (number (take 14 bits)) input_lt)

  -- what was sent is Clean, with its data
  pub clean : answer_of start (written (sent start bits) old) ≡ Ok (Clean (number (take 14 bits)))
  clean =
      answer_front start (sent start bits) (drop (length (sent start bits)) old) (sent_bits start bits) (sent_length start bits)
      ∙ ap Ok (ap verdict word_received ∙ rm.clean (number (take 14 bits)) input_lt)

  -- with the bit at place p wrong it is Mended there, with its data
  pub mended : (p : ℕ) → 0 < p → p ≤ 30 → answer_of start (flipped p (written (sent start bits) old)) ≡ Ok (Mended p (number (take 14 bits)))
  mended p h k =
      let air = sent start bits in
      let rest = drop (length air) old in
      let b = sent_bits start bits in
      let l = sent_length start bits in
      ap (answer_of start) (flipped_front p air rest h (omega arith)) ∙ answer_front start (flipped p air) rest (flipped_bits p air b) (flipped_length p air ∙ l)
      ∙ ap Ok (ap verdict (number_received start p air b l h k ∙ ap (turned 30 p) word_received) ∙ rm.mended (number (take 14 bits)) p input_lt h k)

  -- with two wrong bits it is Beyond, with the data bits as they were received
  pub beyond : (p q : ℕ) → 0 < p → p ≤ 30 → 0 < q → q ≤ 30 → (p ≡ q → ⊥)
      → answer_of start (flipped q (flipped p (written (sent start bits) old))) ≡ Ok (Beyond (data_of (turned 30 q (turned 30 p (code_word (number (take 14 bits)))))))
  beyond p q h k i j n =
      let air = sent start bits in
      let rest = drop (length air) old in
      let b = sent_bits start bits in
      let l = sent_length start bits in
      let m = flipped_length p air ∙ l in
      ap (answer_of start) (ap (flipped q) (flipped_front p air rest h (omega arith)) ∙ flipped_front q (flipped p air) rest i (omega arith))
      ∙ answer_front start (flipped q (flipped p air)) rest (flipped_bits q (flipped p air) (flipped_bits p air b)) (flipped_length q (flipped p air) ∙ m)
      ∙ ap Ok (ap verdict (number_received start q (flipped p air) (flipped_bits p air b) m i j
      ∙ ap (turned 30 q) (number_received start p air b l h k ∙ ap (turned 30 p) word_received))
      ∙ rm.beyond (number (take 14 bits)) p q input_lt h k i j n)
