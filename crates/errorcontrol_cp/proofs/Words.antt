-- The word of a data block, and when a word is Good.
-- Assumes nothing.
use mathlib.Core.Path.{◌≡◌, sym, ap, ◌∙◌}
use mathlib.Core.List.{List, [], ◌∷◌, ◌++◌, append_assoc}
use mathlib.Core.Bool.{true}
use Prim.Native.Nat.{ℕ, ◌+◌, ◌≤◌}
use native.Mathlib.Omega.{arith}
use borrow.Author.Tests.{eq-eqb, eqb-true}
use lib.ListN.{length, take, drop, length-append, length-drop}
use lib.Seq.{take_at, take-add, drop_at, length-take-le, get_or-take, get_or-drop}
use Rattle.base.specs.Bits.{Bits}
use Rattle.base.proofs.BitLaws.{bits_append, bits_at, bits_of}
use Rattle.trellis.specs.Nearest.{Candidate}
use Rattle.trellis.proofs.Candidates.{tailed_candidate}
use Rattle.crc16.specs.Crc.{register, OK, check}
use Rattle.crc16.proofs.Checks.{check_bits, check_length, leaves_ok, only_check}
use Rattle.errorcontrol_cp.specs.Kinds.{data_bits, word_bits}
use Rattle.errorcontrol_cp.specs.Sending.{word_of}
use Rattle.errorcontrol_cp.specs.Receiving.{good}
use Rattle.errorcontrol_cp.proofs.Rows.{Row}

pub word_length : (block : List ℕ) → length (word_of block) ≡ length block + 20
word_length block =
    omega (arith, length-append (block ++ check block) (0 ∷ 0 ∷ 0 ∷ 0 ∷ []), length-append block (check block), check_length block)

pub word_bits_lem : (block : List ℕ) → Bits block → Bits (word_of block)
word_bits_lem block b =
    bits_append (block ++ check block) (0 ∷ 0 ∷ 0 ∷ 0 ∷ []) (bits_append block (check block) b (check_bits block)) (omega arith, (omega arith, (omega arith, (omega arith, tt))))

pub word_candidate : (kind : ℕ) → Row kind → (block : List ℕ) → Bits block → length block ≡ data_bits kind → Candidate (word_bits kind) (word_of block)
word_candidate kind row block b l =
    tailed_candidate (block ++ check block) (word_bits kind) (bits_append block (check block) b (check_bits block))
    (omega (arith, length-append block (check block), check_length block, row.word))

-- ---- the check
module _ (kind : ℕ) (w : List ℕ) where
  abbrev block : List ℕ
  block = take (data_bits kind) w

  abbrev checked_bits : List ℕ
  checked_bits = take 16 (drop (data_bits kind) w)

  -- a word whose 16 bits after the data are the data's check is Good
  pub check_good : checked_bits ≡ check block → good kind w ≡ true
  unfolding good
  check_good e =
      eq-eqb (register 0xffff (take (data_bits kind + 16) w)) OK
      (ap (register 0xffff) (take-add (data_bits kind) 16 w ∙ ap (λ (c : List ℕ). block ++ c) e) ∙ leaves_ok block)

  -- and no other is
  pub good_check : Bits w → data_bits kind + 16 ≤ length w → good kind w ≡ true → checked_bits ≡ check block
  unfolding good
  good_check b l e =
      only_check block checked_bits
      (bits_of checked_bits (λ i h. omega (arith, get_or-take 16 (drop (data_bits kind) w) i 0 (omega (arith, size)), get_or-drop (data_bits kind) w i 0, bits_at w b (data_bits kind + i)))) size
      (ap (register 0xffff) (sym (take-add (data_bits kind) 16 w)) ∙ eqb-true (register 0xffff (take (data_bits kind + 16) w)) OK e)
    where
      size : length checked_bits ≡ 16
      size = length-take-le 16 (drop (data_bits kind) w) (omega (arith, length-drop (data_bits kind) w))

pub word_good : (kind : ℕ) (block : List ℕ) → length block ≡ data_bits kind → good kind (word_of block) ≡ true
word_good kind block l = check_good kind (word_of block) (after ∙ ap check (sym front))
  where
    parts : word_of block ≡ block ++ (check block ++ (0 ∷ 0 ∷ 0 ∷ 0 ∷ []))
    parts = append_assoc block (check block) (0 ∷ 0 ∷ 0 ∷ 0 ∷ [])

    front : take (data_bits kind) (word_of block) ≡ block
    front = ap (take (data_bits kind)) parts ∙ take_at block (check block ++ (0 ∷ 0 ∷ 0 ∷ 0 ∷ [])) (data_bits kind) l

    after : take 16 (drop (data_bits kind) (word_of block)) ≡ check block
    after =
        ap (λ (w : List ℕ). take 16 (drop (data_bits kind) w)) parts ∙ ap (take 16) (drop_at block (check block ++ (0 ∷ 0 ∷ 0 ∷ 0 ∷ [])) (data_bits kind) l)
        ∙ take_at (check block) (0 ∷ 0 ∷ 0 ∷ 0 ∷ []) 16 (check_length block)
