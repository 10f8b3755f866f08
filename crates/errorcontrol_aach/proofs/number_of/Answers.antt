use Prim.Native.Nat.{ℕ}
use mathlib.Core.Path.{◌≡◌, ap, ◌∙◌}
use native.Mathlib.Omega.{arith}
use lib.ListN.{length, take}
use lib.Seq.{take-length}
use Rattle.base.specs.Digits.{number}
use Rattle.errorcontrol_aach.proofs.Numbers.{whole_lt, sum_fits}
use Rattle.errorcontrol_aach.proofs.number_of.Goals as goal

pub overflow_mul-sum : goal.overflow_mul-sum
overflow_mul-sum c =
    let a = c.args in
    let l = c.loop-bit in
    omega (arith, sum_fits l.bit-index l.sum a.bits.now c.requires.0 c.requires.1 (omega arith) l.invariant)

pub overflow_add-sum : goal.overflow_add-sum
overflow_add-sum c =
    let a = c.args in
    let l = c.loop-bit in
    omega (arith, sum_fits l.bit-index l.sum a.bits.now c.requires.0 c.requires.1 (omega arith) l.invariant)

pub returns : goal.returns
returns c =
    let s = c.args.bits.now in
    let l = c.loop-bit in
    let e : l.bit-index ≡ length s = omega arith in
    let f : l.sum ≡ number s = l.invariant ∙ ap (λ (i : ℕ). number (take i s)) e ∙ ap number (take-length s) in
    (f, omega (arith, f, whole_lt s c.requires.1))
