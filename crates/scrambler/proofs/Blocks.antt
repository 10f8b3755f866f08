-- Blocks under the register: place by place, and sending undone by receiving.
-- Assumes nothing.
use mathlib.Core.Path.{◌≡◌, refl, sym, ap, subst, ◌∙◌}
use mathlib.Core.List.{List}
use mathlib.Core.Bool.{true}
use Prim.Native.Nat.{ℕ, zero, suc, ◌+◌, ◌%◌, ◌<◌}
use native.Mathlib.Omega.{arith}
use lib.ListN.{length, drop, get_or}
use lib.Seq.{get_or-append-add, get_or-drop, take-length}
use Rattle.base.specs.Refusal.{accepted, unless}
use Rattle.base.specs.Bits.{Bits, bits_only, ERASED, disagrees}
use Rattle.base.specs.Places.{tabulate, written}
use Rattle.base.proofs.Lists.{tabulate_length, tabulate_at, tabulate_same, tabulate_of}
use Rattle.base.proofs.BitLaws.{bit_cases, two_bits, bits_tabulate, bits_at, bits_only_bits}
use Rattle.scrambler.specs.Scrambling.{output, scrambled, send_refusal, descrambled_symbol, descrambled}
use Rattle.scrambler.proofs.Outputs.{output_lt, output_zero}

-- ---- one symbol
-- of a bit it is the sum mod 2
pub symbol_bit : (r o : ℕ) → r < 2 → o < 2 → descrambled_symbol r o ≡ (r + o) % 2
symbol_bit zero o h k = omega arith
symbol_bit (suc zero) o h k = refl
symbol_bit (suc (suc r)) o h k = absurd (omega arith)

-- an erasure stays one
pub erased_stays : (o : ℕ) → descrambled_symbol ERASED o ≡ ERASED
erased_stays o = refl

-- a symbol costs after descrambling what it cost where the scrambled bit was sent
pub symbol_disagrees : (r y o : ℕ) → y < 2 → o < 2 → disagrees (descrambled_symbol r o) y ≡ disagrees r ((y + o) % 2)
symbol_disagrees zero y o h k =
    two_bits (λ y o. disagrees o y ≡ (y + o) % 2) refl refl refl refl y o h k
symbol_disagrees (suc zero) y o h k =
    two_bits (λ y o. disagrees ((1 + o) % 2) y ≡ disagrees 1 ((y + o) % 2)) refl refl refl refl y o h k
symbol_disagrees (suc (suc r)) y o h k = refl

-- twice is once from the register 0
pub symbol_twice : (r o : ℕ) → o < 2 → descrambled_symbol (descrambled_symbol r o) o ≡ descrambled_symbol r 0
symbol_twice zero o k = bit_cases (λ o. descrambled_symbol o o ≡ 0) refl refl o k
symbol_twice (suc zero) o k = bit_cases (λ o. descrambled_symbol ((1 + o) % 2) o ≡ 1) refl refl o k
symbol_twice (suc (suc r)) o k = refl

-- ---- entries that the loop has not come to
pub write_ahead : (f : ℕ → ℕ) (i : ℕ) (d : List ℕ) → get_or (written (tabulate f i) d) i 0 ≡ get_or d i 0
write_ahead f i d =
    let l = tabulate_length f i in
    let e : i ≡ length (tabulate f i) + 0 = omega arith in
    ap (λ (k : ℕ). get_or (written (tabulate f i) d) k 0) e ∙ get_or-append-add (tabulate f i) (drop (length (tabulate f i)) d) 0 0
    ∙ get_or-drop (length (tabulate f i)) d 0 0 ∙ ap (λ (k : ℕ). get_or d k 0) (sym e)

-- ---- a block
pub scrambled_length : (x : ℕ) (b : List ℕ) → length (scrambled x b) ≡ length b
scrambled_length x b = tabulate_length (λ i. (get_or b i 0 + output x i) % 2) (length b)

pub scrambled_at : (x : ℕ) (b : List ℕ) (i : ℕ) → i < length b → get_or (scrambled x b) i 0 ≡ (get_or b i 0 + output x i) % 2
scrambled_at x b i h = tabulate_at (λ i. (get_or b i 0 + output x i) % 2) (length b) i h

pub scrambled_bits : (x : ℕ) (b : List ℕ) → Bits (scrambled x b)
scrambled_bits x b = bits_tabulate (λ i. (get_or b i 0 + output x i) % 2) (length b) (λ i h. omega arith)

pub descrambled_length : (x : ℕ) (b : List ℕ) → length (descrambled x b) ≡ length b
descrambled_length x b = tabulate_length (λ i. descrambled_symbol (get_or b i 0) (output x i)) (length b)

pub descrambled_at : (x : ℕ) (b : List ℕ) (i : ℕ) → i < length b → get_or (descrambled x b) i 0 ≡ descrambled_symbol (get_or b i 0) (output x i)
descrambled_at x b i h = tabulate_at (λ i. descrambled_symbol (get_or b i 0) (output x i)) (length b) i h

-- of bits receiving makes what sending does
pub descrambled_bits : (x : ℕ) (b : List ℕ) → Bits b → descrambled x b ≡ scrambled x b
descrambled_bits x b p =
    tabulate_same (λ i. descrambled_symbol (get_or b i 0) (output x i)) (λ i. (get_or b i 0 + output x i) % 2) (length b)
    (λ i h. symbol_bit (get_or b i 0) (output x i) (bits_at b p i) (output_lt x i))

-- descrambling twice leaves the bits, and each erasure as 0xff
pub descrambled_twice : (x : ℕ) (b : List ℕ) → descrambled x (descrambled x b) ≡ descrambled 0 b
descrambled_twice x b =
    tabulate_of (descrambled x (descrambled x b)) (λ i. descrambled_symbol (get_or b i 0) (output 0 i)) (length b)
    (descrambled_length x (descrambled x b) ∙ descrambled_length x b)
    (λ i h. descrambled_at x (descrambled x b) i (omega (arith, descrambled_length x b))
    ∙ ap (λ (r : ℕ). descrambled_symbol r (output x i)) (descrambled_at x b i h)
    ∙ symbol_twice (get_or b i 0) (output x i) (output_lt x i) ∙ ap (descrambled_symbol (get_or b i 0)) (sym (output_zero i)))

-- from 0 nothing changes
pub scrambled_zero : (b : List ℕ) → Bits b → scrambled 0 b ≡ b
scrambled_zero b p =
    sym (tabulate_of b (λ i. (get_or b i 0 + output 0 i) % 2) (length b) refl (λ i h. omega (arith, bits_at b p i, output_zero i)))

pub descrambled_zero : (b : List ℕ) → Bits b → descrambled 0 b ≡ b
descrambled_zero b p = descrambled_bits 0 b p ∙ scrambled_zero b p

-- receiving undoes sending under the same start
pub descrambled_scrambled : (x : ℕ) (b : List ℕ) → Bits b → descrambled x (scrambled x b) ≡ b
descrambled_scrambled x b p =
    ap (descrambled x) (sym (descrambled_bits x b p)) ∙ descrambled_twice x b ∙ descrambled_zero b p

-- ---- the sending form's answers
pub send_done : (x : ℕ) (b : List ℕ) → bits_only (length b) b ≡ true
    → (accepted ≡ send_refusal b) × (descrambled x b ≡ unless (send_refusal b) (scrambled x b) b)
send_done x b e = rw e (refl, descrambled_bits x b (subst Bits (take-length b) (bits_only_bits (length b) b e)))
