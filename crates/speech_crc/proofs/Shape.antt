-- The check is eight bits.
-- Assumes nothing.
use mathlib.Core.Path.{◌≡◌, ◌∙◌, ap}
use mathlib.Core.List.{List, [], ◌∷◌}
use Prim.Native.Nat.{ℕ, zero, suc, ◌+◌, ◌-◌}
use native.Mathlib.Omega.{arith}
use lib.ListN.{length, get_or, length-append}
use Rattle.base.specs.Bits.{Bits}
use Rattle.base.specs.Places.{tabulate}
use Rattle.base.proofs.Lists.{tabulate_length}
use Rattle.base.proofs.BitLaws.{bits_append, bits_at, bits_tabulate}
use Rattle.speech_crc.specs.Check.{divisor, added, divided, data_bits, dividend, remainder, speech_check}
use Rattle.speech_crc.proofs.Dividend.{dividend_bits}

pub check_length : (src : List ℕ) → length (speech_check src) ≡ 8
unfolding speech_check
check_length src =
    length-append (tabulate (λ i. get_or (remainder (data_bits src)) (6 - i) 0) 7) (_ ∷ [])
    ∙ ap (λ (n : ℕ). n + 1) (tabulate_length (λ i. get_or (remainder (data_bits src)) (6 - i) 0) 7)

pub added_bits : (b : ℕ) (g w : List ℕ) → Bits w → Bits (added b g w)
added_bits b [] w h = h
added_bits b (x ∷ g) [] h = tt
added_bits b (x ∷ g) (c ∷ w) h = (omega arith, added_bits b g w h.1)

pub divided_bits : (n : ℕ) (w : List ℕ) → Bits w → Bits (divided n w)
unfolding divided
divided_bits zero w h = h
divided_bits (suc n) [] h = tt
divided_bits (suc n) (b ∷ w) h = divided_bits n (added b divisor w) (added_bits b divisor w h.1)

pub check_bits : (src : List ℕ) → Bits (speech_check src)
unfolding speech_check
check_bits src =
    bits_append (tabulate (λ i. get_or (remainder (data_bits src)) (6 - i) 0) 7) (_ ∷ [])
    (bits_tabulate (λ i. get_or (remainder (data_bits src)) (6 - i) 0) 7 (λ i h. bits_at (remainder (data_bits src)) (divided_bits 60 (dividend (data_bits src)) (dividend_bits src)) (6 - i)))
    (omega arith, tt)
