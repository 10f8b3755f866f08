-- A word written in parts over zeros: its data, then its check.
-- Assumes nothing.
use mathlib.Core.Path.{◌≡◌, refl, sym, ap, ap₂, ◌∙◌}
use mathlib.Core.List.{List, ◌∷◌, ◌++◌, append-nil, append_assoc}
use Prim.Native.Nat.{ℕ, zero, suc, ◌+◌, ◌-◌, ◌≤◌}
use native.Mathlib.Omega.{arith}
use lib.ListN.{length, take, drop, replicate, length-append, length-replicate, replicate-append-replicate}
use lib.Seq.{take_at, drop_at}
use borrow.Rule.Slice.PartMut.{put_mid}
use Rattle.base.specs.Places.{written}
use Rattle.crc16.specs.Crc.{check}
use Rattle.crc16.proofs.Checks.{check_length}
use Rattle.errorcontrol_cp.specs.Sending.{word_of}

pub take_replicate : (n m v : ℕ) → n ≤ m → take n (replicate m v) ≡ replicate n v
take_replicate zero m v h = refl
take_replicate (suc n) zero v h = absurd (omega arith)
take_replicate (suc n) (suc m) v h = ap (λ (l : List ℕ). v ∷ l) (take_replicate n m v (omega arith))

-- ---- the word
module _ (block word first : List ℕ) (e : word ≡ replicate (length block + 20) 0) (f : first ≡ block) where
  abbrev count : ℕ
  count = length block

  zeros_left : drop count word ≡ replicate 20 0
  zeros_left =
      ap (drop count) (e ∙ sym (replicate-append-replicate count 20 0)) ∙ drop_at (replicate count 0) (replicate 20 0) count (length-replicate count 0)

  -- the target once the data is in it
  data_first : first ++ drop count word ≡ block ++ replicate 20 0
  data_first = ap₂ (λ (x y : List ℕ). x ++ y) f zeros_left

  rest_length : length (first ++ drop count word) - count ≡ 20
  rest_length = omega (arith, ap length data_first, length-append block (replicate 20 0), length-replicate {A = ℕ} 20 0)

  rest : take (length (first ++ drop count word) - count) (drop count (first ++ drop count word)) ≡ replicate 20 0
  rest =
      ap₂ (λ (n : ℕ) (l : List ℕ). take n (drop count l)) rest_length data_first
      ∙ ap (take 20) (drop_at block (replicate 20 0) count refl)

  -- and once the check is
  pub word_made : (last : List ℕ)
      → last ≡ written (check block) (take (length (first ++ drop count word) - count) (drop count (first ++ drop count word)))
      → put_mid count (length (first ++ drop count word) - count) (first ++ drop count word) last ≡ word_of block
  word_made last g =
      ap₂ (λ (n : ℕ) (l : List ℕ). put_mid count n l last) rest_length data_first
      ∙ ap₂ (λ (x y : List ℕ). x ++ (last ++ drop 20 y)) (take_at block (replicate 20 0) count refl) (drop_at block (replicate 20 0) count refl)
      ∙ ap (λ (l : List ℕ). block ++ l)
      (append-nil last ∙ g ∙ ap (written (check block)) rest ∙ ap (λ (n : ℕ). check block ++ drop n (replicate 20 0)) (check_length block))
      ∙ sym (append_assoc block (check block) (replicate 4 0))
