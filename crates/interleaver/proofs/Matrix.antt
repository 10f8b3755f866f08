-- The matrix interleaver's places: a permutation, so that each way undoes the other.
-- Assumes nothing.
use mathlib.Core.Path.{◌≡◌, refl, sym, ap, ap₂, ◌∙◌}
use mathlib.Core.List.{List}
use Prim.Native.Nat.{ℕ, zero, suc, ◌+◌, ◌*◌, ◌/◌, ◌%◌, ◌≤◌, ◌<◌}
use native.Mathlib.Nat.{mod-lt, mul-zero, mul_comm, add-mul, one-mul, mul-le-mul_right, div-add-mod', div-lt_iff_lt-mul}
use native.Mathlib.Omega.{arith}
use lib.Arith.{digits_lt, digits_div, digits_mod}
use lib.Dec.{ltb}
use borrow.Author.Tests.{ltb-false}
use lib.ListN.{length, take, drop, get_or, set}
use lib.Seq.{get_or-drop}
use Rattle.base.specs.declared.Refusal.TheVariants as refusals
use Rattle.base.specs.Refusal.{LIMIT, SHORT, ROOM, accepted, when}
use Rattle.base.specs.Places.{written, gather, scatter, Apart}
use Rattle.base.specs.private.Places.{Within}
use Rattle.base.proofs.Moves.{Onto, scatter_same, scatter_join, scatter_set, scatter_back, gather_scatter, scatter_gather}
use Rattle.base.proofs.Refusals.{passed}
use Rattle.interleaver.specs.Interleaving.{matrix_place, matrix_refusal, matrix_interleaved, matrix_deinterleaved}
use Rattle.interleaver.specs.private.Lines.{MatrixFits, line_moved}
use Rattle.interleaver.proofs.Walk.{spread_more}

-- ---- what no refusal says
pub matrix_accepted : (lines columns src dst : ℕ) → matrix_refusal lines columns src dst ≡ accepted → MatrixFits lines columns src dst
matrix_accepted lines columns src dst h =
    let n = lines * columns in
    let room = when (ltb dst n) ROOM accepted in
    let long = when (ltb src n) SHORT room in
    let count = when (ltb 4096 n) LIMIT long in
    let p = passed (ltb 4096 lines) refusals.Limit (when (ltb 4096 columns) LIMIT count) h in
    let q = passed (ltb 4096 columns) refusals.Limit count p.1 in
    let r = passed (ltb 4096 n) refusals.Limit long q.1 in
    let s = passed (ltb src n) refusals.Short room r.1 in
    let t = passed (ltb dst n) refusals.Room accepted s.1 in
    record {
      few_lines = ltb-false 4096 lines p.0;
      few_columns = ltb-false 4096 columns q.0;
      count = ltb-false 4096 n r.0;
      long = ltb-false src n s.0;
      room = ltb-false dst n t.0;
    }

-- ---- a permutation
some : (lines columns x : ℕ) → x < lines * columns → 0 < columns
some lines zero x h = absurd (omega (arith, mul-zero lines))
some lines (suc c) x h = omega arith

module _ (lines columns x : ℕ) (h : x < lines * columns) where
  some_columns : 0 < columns
  some_columns = some lines columns x h

  column_below : x % columns < columns
  column_below = mod-lt x some_columns

  line_below : x / columns < lines
  line_below = (div-lt_iff_lt-mul some_columns).1 h

  pub matrix_place_below : matrix_place lines columns x < lines * columns
  matrix_place_below = omega (arith, digits_lt column_below line_below, mul_comm lines columns)

  -- turning the other way is going back
  pub matrix_place_back : matrix_place columns lines (matrix_place lines columns x) ≡ x
  matrix_place_back =
      ap₂ (λ (j i : ℕ). j * columns + i) (digits_mod (x % columns) line_below) (digits_div (x % columns) line_below) ∙ div-add-mod' x columns

pub matrix_within : (lines columns : ℕ) → Within (matrix_place lines columns) (lines * columns) (lines * columns)
matrix_within lines columns i h = matrix_place_below lines columns i h

pub matrix_apart : (lines columns : ℕ) → Apart (matrix_place lines columns) (lines * columns)
matrix_apart lines columns i j p q e = sym (matrix_place_back lines columns i p) ∙ ap (matrix_place columns lines) e ∙ matrix_place_back lines columns j q

pub matrix_onto : (lines columns : ℕ) → Onto (matrix_place lines columns) (lines * columns)
matrix_onto lines columns x h =
    let c = mul_comm lines columns in
    let l : x < columns * lines = omega arith in
    (matrix_place columns lines x, omega (arith, matrix_place_below columns lines x l), matrix_place_back columns lines x l)

-- ---- a line of the source
pub one_more : (n m : ℕ) → (n + 1) * m ≡ n * m + m
one_more n m = add-mul n 1 m ∙ ap (λ (x : ℕ). n * m + x) (one-mul m)

-- what fits as lines fits as columns
pub fits_matrix_place : (lines columns src dst : ℕ) → MatrixFits lines columns src dst → MatrixFits columns lines src dst
fits_matrix_place lines columns src dst fits =
    let e = mul_comm lines columns in
    record {
      few_lines = fits.few_columns;
      few_columns = fits.few_lines;
      count = omega (arith, fits.count);
      long = omega (arith, fits.long);
      room = omega (arith, fits.room);
    }

module _ (lines columns line : ℕ) (inside : line < lines) where
  -- where the line ends in the source
  pub line_ends : line * columns + columns ≤ lines * columns
  line_ends = omega (arith, one_more line columns, mul-le-mul_right columns inside)

  -- where the line's entry i goes
  pub target_below : (i : ℕ) → i < columns → i * lines + line < lines * columns
  target_below i h = omega (arith, digits_lt h inside, mul_comm lines columns)

  -- the lines before it and the line
  pub line_more : (src dst : List ℕ)
      → line_moved lines columns line src (scatter (matrix_place lines columns) (line * columns) src dst) ≡ scatter (matrix_place lines columns) ((line + 1) * columns) src dst
  line_more src dst =
      scatter_same (λ i. i * lines + line) (λ i. matrix_place lines columns (line * columns + i)) columns (drop (line * columns) src) (scatter (matrix_place lines columns) (line * columns) src dst)
      (λ i h. sym (ap₂ (λ (c l : ℕ). c * lines + l) (digits_mod line h) (digits_div line h)))
      ∙ scatter_join (matrix_place lines columns) (line * columns) columns src dst
      ∙ ap (λ (n : ℕ). scatter (matrix_place lines columns) n src dst) (sym (one_more line columns))

-- and the next line
pub pair_more : (lines columns line : ℕ) → line + 1 < lines → (src dst : List ℕ)
    → line_moved lines columns (line + 1) src (line_moved lines columns line src (scatter (matrix_place lines columns) (line * columns) src dst))
    ≡ scatter (matrix_place lines columns) ((line + 2) * columns) src dst
pair_more lines columns line inside src dst =
    let two : line + 1 + 1 ≡ line + 2 = omega arith in
    ap (line_moved lines columns (line + 1) src) (line_more lines columns line (omega arith) src dst)
    ∙ line_more lines columns (line + 1) inside src dst
    ∙ ap (λ (n : ℕ). scatter (matrix_place lines columns) (n * columns) src dst) two

pub next_ends : (lines columns line : ℕ) → line + 1 < lines → line * columns + columns + columns ≤ lines * columns
next_ends lines columns line inside = omega (arith, line_ends lines columns (line + 1) inside, one_more line columns)

-- ---- a turn of the loop over a line
pub line_turn : (lines line i at : ℕ) (src dst out : List ℕ) (first : ℕ) → at ≡ i * lines + line → out ≡ scatter (λ k. k * lines + line) i (drop first src) dst
    → set out at (get_or src (first + i) 0) ≡ scatter (λ k. k * lines + line) (i + 1) (drop first src) dst
line_turn lines line i at src dst out first e was =
    ap (set out at) (sym (get_or-drop first src i 0)) ∙ spread_more (λ k. k * lines + line) i at (drop first src) dst out e was

-- two lines that stand side by side share no place
beside : (lines line k i : ℕ) → line + 1 < lines → k * lines + (line + 1) ≡ i * lines + line → ⊥
beside lines line k i h e =
    let l : line < lines = omega arith in
    omega (arith, sym (digits_mod k h) ∙ ap (λ (x : ℕ). x % lines) e ∙ digits_mod i l)

pub pair_turn : (lines line i at : ℕ) (src dst out : List ℕ) (first second : ℕ) → line + 1 < lines → at ≡ i * lines + line
    → out ≡ scatter (λ k. k * lines + (line + 1)) i (drop second src) (scatter (λ k. k * lines + line) i (drop first src) dst)
    → set (set out at (get_or src (first + i) 0)) (at + 1) (get_or src (second + i) 0)
    ≡ scatter (λ k. k * lines + (line + 1)) (i + 1) (drop second src) (scatter (λ k. k * lines + line) (i + 1) (drop first src) dst)
pair_turn lines line i at src dst out first second h e was =
    line_turn lines (line + 1) i (at + 1) src (scatter (λ k. k * lines + line) (i + 1) (drop first src) dst) (set out at v) second (omega arith) once
  where
    v : ℕ
    v = get_or src (first + i) 0

    half : List ℕ
    half = scatter (λ k. k * lines + line) i (drop first src) dst

    once : set out at v ≡ scatter (λ k. k * lines + (line + 1)) i (drop second src) (scatter (λ k. k * lines + line) (i + 1) (drop first src) dst)
    once =
        ap (λ (l : List ℕ). set l at v) was
        ∙ scatter_set (λ k. k * lines + (line + 1)) i (drop second src) half at v (λ k p q. beside lines line k i h (q ∙ e))
        ∙ ap (scatter (λ k. k * lines + (line + 1)) i (drop second src)) (line_turn lines line i at src dst half first e refl)

pub at_more : (lines line i at : ℕ) → at ≡ i * lines + line → at + lines ≡ (i + 1) * lines + line
at_more lines line i at e = omega (arith, one_more i lines)

-- turning a matrix of columns as lines is deinterleaving
pub matrix_back : (lines columns : ℕ) (src dst : List ℕ) → lines * columns ≤ length dst
    → matrix_interleaved columns lines src dst ≡ written (matrix_deinterleaved lines columns src) dst
matrix_back lines columns src dst room =
    scatter_back (matrix_place lines columns) (matrix_place columns lines) (columns * lines) src dst (matrix_apart columns lines) (matrix_within columns lines)
    (λ x h. omega (arith, matrix_place_below lines columns x (other x h), mul_comm lines columns)) (λ x h. matrix_place_back lines columns x (other x h))
    (omega (arith, mul_comm lines columns))
    ∙ ap (λ (n : ℕ). written (gather (matrix_place lines columns) n src) dst) (mul_comm columns lines)
  where
    other : (x : ℕ) → x < columns * lines → x < lines * columns
    other x h = omega (arith, mul_comm lines columns)

-- ---- each undoes the other
module _ (lines columns : ℕ) (src dst : List ℕ) (long : lines * columns ≤ length src) (room : lines * columns ≤ length dst) where
  -- what was interleaved is deinterleaved back
  pub matrix_deinterleaved_interleaved : matrix_deinterleaved lines columns (matrix_interleaved lines columns src dst) ≡ take (lines * columns) src
  matrix_deinterleaved_interleaved =
      gather_scatter (matrix_place lines columns) (lines * columns) src dst (matrix_apart lines columns) (λ i l. omega (arith, matrix_within lines columns i l)) long

  -- what was deinterleaved is interleaved back
  pub matrix_interleaved_deinterleaved : matrix_interleaved lines columns (matrix_deinterleaved lines columns src) dst ≡ written (take (lines * columns) src) dst
  matrix_interleaved_deinterleaved =
      scatter_gather (matrix_place lines columns) (lines * columns) src dst (matrix_apart lines columns) (matrix_within lines columns) (matrix_onto lines columns) long room
