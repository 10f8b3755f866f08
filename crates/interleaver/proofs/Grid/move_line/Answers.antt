use mathlib.Core.Path.{refl}
use Prim.Native.Nat.{◌*◌}
use native.Mathlib.Nat.{zero-mul}
use native.Mathlib.Omega.{arith}
use lib.ListN.{length-set}
use Rattle.base.proofs.Moves.{scatter_none}
use Rattle.interleaver.proofs.Matrix.{line_turn, at_more, target_below}
use Rattle.interleaver.proofs.Grid.move_line.Goals as goal

pub loop-i-init : goal.loop-i-init
loop-i-init c = (omega arith, refl, omega (arith, zero-mul c.args.self.lines), scatter_none _ _ _)

pub loop-i-preserved : goal.loop-i-preserved
loop-i-preserved c =
    let a = c.args in
    let l = c.loop-i in (
      omega arith,
      simp length-set l.invariant.1,
      at_more a.self.lines a.line l.i l.at l.invariant.2,
      line_turn a.self.lines a.line l.i l.at a.input.now a.output.now l.output (a.line * a.self.columns) l.invariant.2 l.invariant.3,
    )

pub bounds-output-at : goal.bounds-output-at
bounds-output-at c =
    let a = c.args in
    omega (arith, target_below a.self.lines a.self.columns a.line c.requires.0 c.loop-i.i (omega arith), c.requires.1.room)
