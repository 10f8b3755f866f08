-- The stages below accept what these hand them, and what they then leave.
-- Assumes nothing.
use mathlib.Core.Path.{◌≡◌, sym, ap, ap₂, ◌∙◌, subst}
use mathlib.Core.List.{List, ◌++◌}
use mathlib.Core.Bool.{false}
use Prim.Native.Nat.{ℕ, ◌*◌, ◌≤◌}
use native.Mathlib.Omega.{arith}
use borrow.Author.Tests.{le-ltb}
use lib.ListN.{length, take, drop, replicate, length-replicate}
use lib.Seq.{length-take-le, take_at}
use Rattle.base.specs.Refusal.{Owed, accepted, unless}
use Rattle.base.specs.Bits.{Bits}
use Rattle.base.specs.Places.{written, scatter, Apart}
use Rattle.base.specs.private.Places.{Within}
use Rattle.base.proofs.BitLaws.{bits_only_yes}
use Rattle.base.proofs.Lists.{written_whole}
use Rattle.base.proofs.Moves.{Onto, gather_length, scatter_length, scatter_over}
use Rattle.trellis.proofs.Words.{zeros_bits}
use Rattle.air.proofs.Moved.{gather_bits, scatter_bits}
use Rattle.puncturing.specs.Puncturing.{kept_place, needed, puncture_refusal, punctured, depunctured}
use Rattle.puncturing.proofs.Refusing.{puncture_accepts}
use Rattle.interleaver.specs.Interleaving.{place, matrix_place, shared, block_refusal, interleaved, deinterleaved, matrix_refusal, matrix_interleaved, matrix_deinterleaved}
use Rattle.interleaver.proofs.Block.{block_apart, block_within, block_onto}
use Rattle.interleaver.proofs.Matrix.{matrix_apart, matrix_within, matrix_onto}
use Rattle.scrambler.specs.Scrambling.{send_refusal, descrambled}
use Rattle.scrambler.proofs.Blocks.{descrambled_length}

-- ---- where nothing is refused
-- what was made
pub made : {A : Type 0} (refusal : Owed) (new old left : A) → refusal ≡ accepted → left ≡ unless refusal new old → left ≡ new
made refusal new old left z p = p ∙ ap (λ (r : Owed). unless r new old) z

-- over a target that is as long
pub whole : (refusal : Owed) (new old left : List ℕ) → refusal ≡ accepted → length new ≡ length old → left ≡ unless refusal (written new old) old → left ≡ new
whole refusal new old left z e p = made refusal (written new old) old left z p ∙ written_whole new old e

pub scramble_none : (block : List ℕ) → Bits block → send_refusal block ≡ accepted
scramble_none block plain = rw (bits_only_yes (length block) block plain)

block_none : (k a src dst : ℕ) → k ≤ 4096 → a ≤ 65535 → shared k a ≡ false → k ≤ src → k ≤ dst → block_refusal k a src dst ≡ accepted
block_none k a src dst limit number alone long room = rw (le-ltb 4096 k limit, le-ltb 65535 a number, alone, le-ltb src k long, le-ltb dst k room)

matrix_none : (lines columns src dst : ℕ) → lines ≤ 4096 → columns ≤ 4096 → lines * columns ≤ 4096 → lines * columns ≤ src → lines * columns ≤ dst
    → matrix_refusal lines columns src dst ≡ accepted
matrix_none lines columns src dst high wide limit long room =
    rw (le-ltb 4096 lines high, le-ltb 4096 columns wide, le-ltb 4096 (lines * columns) limit, le-ltb src (lines * columns) long, le-ltb dst (lines * columns) room)

-- ---- the front of a work array that a part was written over
module _ (n : ℕ) (part work : List ℕ) (size : length part ≡ n) where
  pub front : take n (part ++ drop n work) ≡ part
  front = take_at part (drop n work) n size

  pub front_length : length (take n (part ++ drop n work)) ≡ n
  front_length = ap length front ∙ size

-- ---- one stage each
pub punctured_whole : (mode : ℕ) (mother coded left : List ℕ) → mode ≤ 6 → length coded ≤ 4096 → needed mode (length coded) ≤ length mother
    → left ≡ unless (puncture_refusal mode (length coded) (length mother) (length coded)) (written (punctured mode (length coded) mother) coded) coded
    → left ≡ punctured mode (length coded) mother
punctured_whole mode mother coded left known limit reach =
    whole (puncture_refusal mode (length coded) (length mother) (length coded)) (punctured mode (length coded) mother) coded left
    (puncture_accepts mode (length coded) (length mother) (length coded) known limit reach (omega arith)) (gather_length (kept_place mode) (length coded) mother)

-- places that fill a target leave nothing of it
filled : (place : ℕ → ℕ) (n : ℕ) (src dst : List ℕ) → Apart place n → Within place n n → Onto place n → length dst ≡ n → scatter place n src dst ≡ scatter place n src (replicate n 0)
filled place n src dst apart within onto size =
    scatter_over place n src (replicate n 0) dst apart within onto (length-replicate n 0) (omega arith)
    ∙ written_whole (scatter place n src (replicate n 0)) dst (scatter_length place n src (replicate n 0) ∙ length-replicate n 0 ∙ sym size)

module _ (k a : ℕ) (src dst left : List ℕ) (limit : k ≤ 4096) (number : a ≤ 65535) (alone : shared k a ≡ false) (long : length src ≡ k) (size : length dst ≡ k) where
  block_free : block_refusal k a (length src) (length dst) ≡ accepted
  block_free = block_none k a (length src) (length dst) limit number alone (omega arith) (omega arith)

  pub interleaved_whole : left ≡ unless (block_refusal k a (length src) (length dst)) (interleaved k a src dst) dst → left ≡ interleaved k a src (replicate k 0)
  interleaved_whole e =
      made (block_refusal k a (length src) (length dst)) (interleaved k a src dst) dst left block_free e
      ∙ filled (place k a) k src dst (block_apart k a alone) (block_within k a) (block_onto k a alone) size

  pub deinterleaved_whole : left ≡ unless (block_refusal k a (length src) (length dst)) (written (deinterleaved k a src) dst) dst → left ≡ deinterleaved k a src
  deinterleaved_whole = whole (block_refusal k a (length src) (length dst)) (deinterleaved k a src) dst left block_free (gather_length (place k a) k src ∙ sym size)

module _ (lines columns : ℕ) (src dst left : List ℕ) (high : lines ≤ 4096) (wide : columns ≤ 4096) (limit : lines * columns ≤ 4096)
    (long : length src ≡ lines * columns) (size : length dst ≡ lines * columns) where
  matrix_free : matrix_refusal lines columns (length src) (length dst) ≡ accepted
  matrix_free = matrix_none lines columns (length src) (length dst) high wide limit (omega arith) (omega arith)

  pub matrix_whole : left ≡ unless (matrix_refusal lines columns (length src) (length dst)) (matrix_interleaved lines columns src dst) dst
      → left ≡ matrix_interleaved lines columns src (replicate (lines * columns) 0)
  matrix_whole e =
      made (matrix_refusal lines columns (length src) (length dst)) (matrix_interleaved lines columns src dst) dst left matrix_free e
      ∙ filled (matrix_place lines columns) (lines * columns) src dst (matrix_apart lines columns) (matrix_within lines columns) (matrix_onto lines columns) size

  pub unmatrixed_whole : left ≡ unless (matrix_refusal lines columns (length src) (length dst)) (written (matrix_deinterleaved lines columns src) dst) dst
      → left ≡ matrix_deinterleaved lines columns src
  unmatrixed_whole =
      whole (matrix_refusal lines columns (length src) (length dst)) (matrix_deinterleaved lines columns src) dst left matrix_free
      (gather_length (matrix_place lines columns) (lines * columns) src ∙ sym size)

-- ---- bits stay bits
pub interleaved_bits : (k a : ℕ) (src : List ℕ) → Bits src → Bits (interleaved k a src (replicate k 0))
interleaved_bits k a src plain = scatter_bits (place k a) k src (replicate k 0) plain (zeros_bits k)

pub matrix_bits : (lines columns : ℕ) (src : List ℕ) → Bits src → Bits (matrix_interleaved lines columns src (replicate (lines * columns) 0))
matrix_bits lines columns src plain =
    scatter_bits (matrix_place lines columns) (lines * columns) src (replicate (lines * columns) 0) plain (zeros_bits (lines * columns))

pub punctured_bits : (mode n : ℕ) (mother : List ℕ) → Bits mother → Bits (punctured mode n mother)
punctured_bits mode n = gather_bits (kept_place mode) n

-- ---- a part of a work array that a stage was handed
module _ (n start : ℕ) (air work plain : List ℕ) (room : n ≤ length work) (was : plain ≡ descrambled start (take (length (take n work)) air)) where
  pub plain_is : plain ≡ descrambled start (take n air)
  plain_is = was ∙ ap (λ (m : ℕ). descrambled start (take m air)) (length-take-le n work room)

  pub plain_length : n ≤ length air → length plain ≡ n
  plain_length long = ap length plain_is ∙ descrambled_length start (take n air) ∙ length-take-le n air long

module _ (mode n : ℕ) (mother work coded : List ℕ) (room : n ≤ length work) (was : coded ≡ punctured mode (length (take n work)) mother) where
  pub coded_is : coded ≡ punctured mode n mother
  coded_is = was ∙ ap (λ (m : ℕ). punctured mode m mother) (length-take-le n work room)

  pub coded_length : length coded ≡ n
  coded_length = ap length coded_is ∙ gather_length (kept_place mode) n mother

-- ---- the stages in a row
-- onto the air: kept in the front of a work array, moved from there
module _ (mode k a : ℕ) (mother work coded air moved : List ℕ) (limit : k ≤ 4096) (number : a ≤ 65535) (alone : shared k a ≡ false) (room : k ≤ length work)
    (size : length air ≡ k) (kept : coded ≡ punctured mode (length (take k work)) mother)
    (went : moved ≡ unless (block_refusal k a (length (take k (coded ++ drop k work))) (length air)) (interleaved k a (take k (coded ++ drop k work)) air) air) where
  pub moved_is : moved ≡ interleaved k a (punctured mode k mother) (replicate k 0)
  moved_is =
      interleaved_whole k a (take k (coded ++ drop k work)) air moved limit number alone (front_length k coded work (coded_length mode k mother work coded room kept)) size went
      ∙ ap (λ (c : List ℕ). interleaved k a c (replicate k 0)) (front k coded work (coded_length mode k mother work coded room kept) ∙ coded_is mode k mother work coded room kept)

  pub moved_bits : Bits mother → Bits moved
  moved_bits plain = subst Bits (sym moved_is) (interleaved_bits k a (punctured mode k mother) (punctured_bits mode k mother plain))

-- off the air: descrambled in the front of a work array, fetched from there
module _ (k a start : ℕ) (air work plain coded left : List ℕ) (limit : k ≤ 4096) (number : a ≤ 65535) (alone : shared k a ≡ false) (room : k ≤ length work)
    (long : k ≤ length air) (size : length coded ≡ k) (was : plain ≡ descrambled start (take (length (take k work)) air)) where
  pub fetched_is : left ≡ unless (block_refusal k a (length (take k (plain ++ drop k work))) (length coded)) (written (deinterleaved k a (take k (plain ++ drop k work))) coded) coded
      → left ≡ deinterleaved k a (descrambled start (take k air))
  fetched_is e =
      deinterleaved_whole k a (take k (plain ++ drop k work)) coded left limit number alone (front_length k plain work (plain_length k start air work plain room was long)) size e
      ∙ ap (deinterleaved k a) (front k plain work (plain_length k start air work plain room was long) ∙ plain_is k start air work plain room was)

module _ (lines columns start : ℕ) (air work plain block left : List ℕ) (high : lines ≤ 4096) (wide : columns ≤ 4096) (limit : lines * columns ≤ 4096)
    (n : ℕ) (count : n ≡ lines * columns) (room : n ≤ length work) (long : n ≤ length air) (size : length block ≡ lines * columns)
    (was : plain ≡ descrambled start (take (length (take n work)) air)) where
  pub matrix_place_is : left ≡ unless (matrix_refusal lines columns (length (take n (plain ++ drop n work))) (length block))
      (written (matrix_deinterleaved lines columns (take n (plain ++ drop n work))) block) block
      → left ≡ matrix_deinterleaved lines columns (descrambled start (take (lines * columns) air))
  matrix_place_is e =
      unmatrixed_whole lines columns (take n (plain ++ drop n work)) block left high wide limit (front_length n plain work (plain_length n start air work plain room was long) ∙ count) size e
      ∙ ap (matrix_deinterleaved lines columns) (front n plain work (plain_length n start air work plain room was long) ∙ plain_is n start air work plain room was
      ∙ ap (λ (m : ℕ). descrambled start (take m air)) count)

-- and put at the kept places from the front of a work array
module _ (mode k a start : ℕ) (air work coded mother left : List ℕ) (room : k ≤ length work)
    (was : coded ≡ deinterleaved k a (descrambled start (take k air))) where
  pub fetched_length : length coded ≡ k
  fetched_length = ap length was ∙ gather_length (place k a) k (descrambled start (take k air))

  pub mother_is : left ≡ depunctured mode (length (take k (coded ++ drop k work))) (take k (coded ++ drop k work)) mother
      → left ≡ depunctured mode k (deinterleaved k a (descrambled start (take k air))) mother
  mother_is e =
      e ∙ ap₂ (λ (n : ℕ) (c : List ℕ). depunctured mode n c mother) (front_length k coded work fetched_length) (front k coded work fetched_length ∙ was)
