use Prim.Native.Nat.{ℕ, ◌-◌, ◌/◌, ◌%◌, ◌^◌}
use mathlib.Core.Path.{◌≡◌, sym, ap, ap₂, ◌∙◌}
use mathlib.Core.List.{List}
use native.Mathlib.Omega.{arith}
use lib.ListN.{set}
use Rattle.base.specs.Places.{tabulate, written}
use Rattle.base.proofs.Lists.{write_none, write_more}
use Rattle.errorcontrol_aach.proofs.Numbers.{digits_tabulate, lowest_bit}
use Rattle.errorcontrol_aach.proofs.write_word.Goals as goal

abbrev digit : ℕ → ℕ → ℕ
digit word j = word / 2 ^ (29 - j) % 2

pub loop-i-init : goal.loop-i-init
loop-i-init c = (omega arith, write_none (digit c.args.word) c.args.air.now)

pub loop-i-preserved : goal.loop-i-preserved
loop-i-preserved c =
    let a = c.args in
    let l = c.loop-i in (
      omega arith,
      ap₂ (λ (air : List ℕ) (x : ℕ). set air l.i x) l.invariant.1 (lowest_bit (a.word / 2 ^ (29 - l.i)))
          ∙ write_more (digit a.word) l.i a.air.now (omega arith),
    )

pub returns : goal.returns
returns c =
    let a = c.args in
    let l = c.loop-i in
    let e : l.i ≡ 30 = omega arith in
    l.invariant.1 ∙ ap (λ (i : ℕ). written (tabulate (digit a.word) i) a.air.now) e
    ∙ ap (λ (new : List ℕ). written new a.air.now) (sym (digits_tabulate 30 a.word))
