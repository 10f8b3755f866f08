use Prim.Native.Nat.{ℕ, ◌-◌}
use mathlib.Core.Path.{◌≡◌, refl, ap, ◌∙◌}
use mathlib.Core.List.{List}
use lib.ListN.{get_or, set, length-set}
use Rattle.base.specs.Places.{written, tabulate}
use Rattle.base.proofs.Lists.{write_none, write_more, written_more, tabulate_length}
use native.Mathlib.Omega.{arith}
use Rattle.speech_crc.proofs.put.Goals as goal

pub loop-i-init : goal.loop-i-init
loop-i-init c = (omega arith, refl, write_none (λ k. get_or c.args.left (6 - k) 0) c.args.check.now)

pub loop-i-preserved : goal.loop-i-preserved
loop-i-preserved c =
    let a = c.args in
    let l = c.loop-i in (
      omega arith,
      length-set l.check l.i _ ∙ l.invariant.1,
      ap (λ (t : List ℕ). set t l.i (get_or a.left (6 - l.i) 0)) l.invariant.2
          ∙ write_more (λ k. get_or a.left (6 - k) 0) l.i a.check.now (omega arith),
    )

pub returns : goal.returns
returns c =
    let a = c.args in
    let l = c.loop-i in
    let e : l.i ≡ 7 = omega arith in
    let f : ℕ → ℕ = λ k. get_or a.left (6 - k) 0 in
    ap (λ (t : List ℕ). set t 7 a.last) (l.invariant.2 ∙ ap (λ (n : ℕ). written (tabulate f n) a.check.now) e)
    ∙ written_more (tabulate f 7) a.check.now a.last 7 (tabulate_length f 7) (omega arith)
