use native.Mathlib.Omega.{arith}
use Prim.Native.Nat.{ℕ, ◌+◌}
use mathlib.Core.Path.{◌≡◌, refl, sym, ap, ◌∙◌}
use lib.Bits.{bit_xor}
use lib.ListN.{drop}
use Rattle.base.specs.Places.{tabulate}
use Rattle.linear.specs.Linear.{image}
use Rattle.linear.proofs.Maps.{image_set, image_clear, image_all}
use Rattle.rm3014.specs.Code.{table, columns, syndrome}
use Rattle.rm3014.proofs.inner.syndrome_of.Goals as goal
use Rattle.rm3014.proofs.inner.syndrome_of.Goals.{then-codeword-i-eq1, else-codeword-i-eq1}

pub loop-i-init : goal.loop-i-init
unfolding syndrome
loop-i-init c = (omega arith, refl)

pub loop-i-preserved : goal.loop-i-preserved
unfolding columns table tabulate
loop-i-preserved c =
    let l = c.loop-i in
    let a = c.args in
    let rest = image (drop (l.i + 1) columns) a.codeword in (
      omega arith,
      elim c.if-codeword-i-eq1.branch [
        | then-codeword-i-eq1 w ↦ ap (λ (y : ℕ). bit_xor y rest) w.sum-is ∙ image_set columns l.i a.codeword l.sum (syndrome a.codeword) (omega arith) l.invariant.1 w.if-codeword-i-eq1.true
        | else-codeword-i-eq1 w ↦ ap (λ (y : ℕ). bit_xor y rest) w.sum-is ∙ image_clear columns l.i a.codeword l.sum (syndrome a.codeword) (omega arith) l.invariant.1 w.if-codeword-i-eq1.false
      ],
    )

pub returns : goal.returns
unfolding columns table tabulate
returns c =
    let l = c.loop-i in
    let a = c.args in
    let e : l.i ≡ 30 = omega arith in
    image_all columns a.codeword l.sum (syndrome a.codeword) (ap (λ (i : ℕ). bit_xor l.sum (image (drop i columns) a.codeword)) (sym e) ∙ l.invariant.1)
