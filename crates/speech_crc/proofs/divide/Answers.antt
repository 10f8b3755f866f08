use Prim.Native.Nat.{ℕ, ◌-◌}
use mathlib.Core.Path.{◌≡◌, sym, ap, ◌∙◌}
use mathlib.Core.List.{List, [], ◌∷◌}
use native.Mathlib.Omega.{arith}
use lib.ListN.{drop}
use Rattle.speech_crc.specs.Check.{added, divided, data_bits, dividend}
use Rattle.speech_crc.proofs.Division.{turn, turn_none, turn_all}
use Rattle.speech_crc.proofs.divide.Goals as goal

pub loop-i-init : goal.loop-i-init
loop-i-init c = (omega arith, turn_none c.args.class2.now)

pub loop-i-preserved : goal.loop-i-preserved
loop-i-preserved c =
    let l = c.loop-i in
    (omega arith, turn c.args.class2.now l.i l.sixth l.fifth l.fourth l.third l.second l.first l.constant (omega arith) (omega arith) ∙ l.invariant.1)

pub returns : goal.returns
returns c =
    let l = c.loop-i in
    let register : List ℕ = l.sixth ∷ l.fifth ∷ l.fourth ∷ l.third ∷ l.second ∷ l.first ∷ l.constant ∷ [] in
    let src = c.args.class2.now in
    let e : 0 ≡ l.i = omega arith in
    sym (turn_all src l.sixth l.fifth l.fourth l.third l.second l.first l.constant)
    ∙ ap (λ (i : ℕ). divided i (added 1 register (drop (60 - i) (dividend (data_bits src))))) e ∙ l.invariant.1
