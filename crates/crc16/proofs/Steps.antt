-- The register over lists of bits: one entry more, two lists, its range.
-- Assumes nothing.
use mathlib.Core.Path.{◌≡◌, refl, sym, ap, ◌∙◌}
use mathlib.Core.List.{List, [], ◌∷◌, ◌++◌}
use Prim.Native.Nat.{ℕ, ◌+◌, ◌*◌, ◌/◌, ◌%◌, ◌<◌}
use native.Mathlib.Omega.{arith}
use lib.Bits.{xor_lt}
use lib.ListN.{length, take, get_or}
use lib.Seq.{take-suc}
use native.Mathlib.Numerals.{add-one}
use Rattle.base.proofs.Lists.{tabulate_more}
use Rattle.base.specs.Places.{tabulate}
use Rattle.crc16.specs.Crc.{GENERATOR, step, register, bit_of}

pub step_lt : (reg b : ℕ) → step reg b < 65536
unfolding step
step_lt reg b = xor_lt 16 (reg * 2 % 65536) ((reg / 32768 + b) % 2 * GENERATOR) (omega arith) (omega arith)

pub register_none : (reg : ℕ) → register reg [] ≡ reg
unfolding register
register_none reg = refl

pub register_cons : (reg b : ℕ) (bs : List ℕ) → register reg (b ∷ bs) ≡ register (step reg b) bs
unfolding register
register_cons reg b bs = refl

pub register_lt : (reg : ℕ) (bs : List ℕ) → reg < 65536 → register reg bs < 65536
unfolding register
register_lt reg [] h = h
register_lt reg (b ∷ bs) h = register_lt (step reg b) bs (step_lt reg b)

pub register_append : (reg : ℕ) (a b : List ℕ) → register reg (a ++ b) ≡ register (register reg a) b
unfolding register
register_append reg [] b = refl
register_append reg (x ∷ a) b = register_append (step reg x) a b

pub register_more : (reg : ℕ) (a : List ℕ) (b : ℕ) → register reg (a ++ (b ∷ [])) ≡ step (register reg a) b
unfolding register
register_more reg a b = register_append reg a (b ∷ [])

-- ---- a turn of the loops
pub entry_more : (crc reg r i : ℕ) (s : List ℕ) → i < length s → reg ≡ register crc (take i s) → r ≡ step reg (get_or s i 0)
    → r ≡ register crc (take (i + 1) s)
entry_more crc reg r i s h p q =
    q ∙ ap (λ (x : ℕ). step x (get_or s i 0)) p ∙ sym (register_more crc (take i s) (get_or s i 0))
    ∙ ap (register crc) (sym (rw (add-one, take-suc s i 0)))

pub packed_more : (crc reg r i b : ℕ) (s : List ℕ) → reg ≡ register crc (tabulate (bit_of s) i) → b ≡ bit_of s i → r ≡ step reg b
    → r ≡ register crc (tabulate (bit_of s) (i + 1))
packed_more crc reg r i b s p o q =
    q ∙ ap (step reg) o ∙ ap (λ (x : ℕ). step x (bit_of s i)) p ∙ sym (register_more crc (tabulate (bit_of s) i) (bit_of s i))
    ∙ ap (register crc) (sym (tabulate_more (bit_of s) i))
