use native.Mathlib.Omega.{arith}
use Prim.Native.Nat.{ℕ, ◌+◌}
use mathlib.Core.Path.{◌≡◌, sym, ap, ◌∙◌}
use lib.Bits.{bit_xor}
use lib.ListN.{drop}
use Rattle.linear.specs.Linear.{image}
use Rattle.linear.proofs.Maps.{image_set, image_clear, image_all}
use Rattle.rm3014.specs.Code.{code_word}
use Rattle.rm3014.proofs.CodeLaws.{masks, masks_agree}
use Rattle.rm3014.proofs.inner.code_word.Goals as goal
use Rattle.rm3014.proofs.inner.code_word.Goals.{then-input-i-eq1, else-input-i-eq1}

pub loop-i-init : goal.loop-i-init
loop-i-init c = (omega arith, masks_agree c.args.input c.requires)

pub loop-i-preserved : goal.loop-i-preserved
unfolding masks
loop-i-preserved c =
    let l = c.loop-i in
    let a = c.args in
    let rest = image (drop (l.i + 1) masks) a.input in (
      omega arith,
      elim c.if-input-i-eq1.branch [
        | then-input-i-eq1 w ↦ ap (λ (y : ℕ). bit_xor y rest) w.word-is ∙ image_set masks l.i a.input l.word (code_word a.input) (omega arith) l.invariant.1 w.if-input-i-eq1.true
        | else-input-i-eq1 w ↦ ap (λ (y : ℕ). bit_xor y rest) w.word-is ∙ image_clear masks l.i a.input l.word (code_word a.input) (omega arith) l.invariant.1 w.if-input-i-eq1.false
      ],
    )

pub returns : goal.returns
unfolding masks
returns c =
    let l = c.loop-i in
    let a = c.args in
    let e : l.i ≡ 14 = omega arith in
    image_all masks a.input l.word (code_word a.input) (ap (λ (i : ℕ). bit_xor l.word (image (drop i masks) a.input)) (sym e) ∙ l.invariant.1)
