use borrow.Author.Rules.{rules}
use Prim.Native.Nat.{ℕ, ◌-◌}
use mathlib.Core.Path.{◌≡◌, refl, ap, ◌∙◌}
use mathlib.Core.List.{List}
use native.Mathlib.Omega.{arith}
use lib.ListN.{set, length-set}
use lib.Seq.{take-length}
use Rattle.crc16.specs.Crc.{register}
use Rattle.base.specs.Places.{tabulate, written}
use Rattle.base.proofs.Lists.{write_more}
use Rattle.crc16.proofs.Checks.{check_bit, check_tabulate}
use Rattle.crc16.proofs.inner.write_check.Goals as goal

pub loop-i-init : goal.loop-i-init
unfolding tabulate
loop-i-init c = (search rules, refl, refl)

pub loop-i-preserved : goal.loop-i-preserved
loop-i-preserved c =
    let t = c.args.target.now in
    let l = c.loop-i in
    let v = check_bit (0xffff - c.crc16_ccitt_bits-complement.result) in (
      omega arith,
      length-set l.target l.i (v l.i) ∙ l.invariant.1,
      ap (λ (s : List ℕ). set s l.i (v l.i)) l.invariant.2 ∙ write_more v l.i t (omega arith),
    )

pub returns : goal.returns
returns c =
    let a = c.args in
    let l = c.loop-i in
    let r = c.crc16_ccitt_bits-complement in
    let e : l.i ≡ 16 = omega arith in
    l.invariant.2 ∙ ap (λ (i : ℕ). written (tabulate (check_bit (0xffff - r.result)) i) a.target.now) e
    ∙ ap (λ (s : List ℕ). written s a.target.now)
    (check_tabulate a.input.now (0xffff - r.result) (ap (λ (x : ℕ). 0xffff - x) (r.ensures ∙ ap (register 0xffff) (take-length a.input.now))))
