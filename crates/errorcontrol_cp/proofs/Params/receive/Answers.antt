-- The mother symbols stand in the work array, and are decoded from there.
use mathlib.Core.Path.{sym, subst}
use mathlib.Core.List.{List}
use Prim.Native.Nat.{ℕ, ◌*◌}
use native.Mathlib.Omega.{arith}
use lib.ListN.{replicate}
use Rattle.base.specs.Bits.{ERASED}
use Rattle.errorcontrol_cp.specs.private.Blocks.{Settles}
use Rattle.errorcontrol_cp.proofs.Parts.{take_replicate}
use Rattle.errorcontrol_cp.proofs.Chains.{symbols_made, settled}
use Rattle.errorcontrol_cp.proofs.Params.receive.Goals as goal

work : List ℕ
work = replicate 1152 ERASED

pub returns : goal.returns
unfolding work
returns c =
    let a = c.args in
    let s = a.self in
    let b = c.on_air in
    let d = c.control-disagreements in
    let blank = take_replicate (4 * s.word) 1152 ERASED (omega (arith, s.tail, s.most)) in
    subst (λ (m : List ℕ). Settles s.block s.word m a.word.now a.trellis.now c.judge.result d.new.target d.new.trellis)
    (symbols_made s.word s.air s.step a.start b.result.mode b.result.count b.result.step b.result.start a.air.now work c.take_off_air.new.mother
    b.ensures.0 b.ensures.1 b.ensures.2 b.ensures.3 blank c.take_off_air.ensures)
    (settled s.block s.word _ a.word.now d.new.target a.trellis.now d.new.trellis d.result (sym s.tail) d.ensures c.judge.result c.judge.ensures)
