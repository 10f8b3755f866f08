use mathlib.Core.Path.{refl, ◌∙◌}
use Prim.Native.Nat.{◌+◌, ◌*◌}
use native.Mathlib.Nat.{zero-mul}
use native.Mathlib.Omega.{arith}
use lib.ListN.{length-set}
use Rattle.base.proofs.Moves.{scatter_none}
use Rattle.interleaver.proofs.Matrix.{pair_turn, at_more, next_ends}
use Rattle.interleaver.proofs.Grid.move_pair.Goals as goal

pub loop-i-init : goal.loop-i-init
loop-i-init c = (omega arith, refl, omega (arith, zero-mul c.args.self.lines), scatter_none _ _ _ ∙ scatter_none _ _ _)

pub loop-i-preserved : goal.loop-i-preserved
loop-i-preserved c =
    let a = c.args in
    let l = c.loop-i in
    let first = a.line * a.self.columns in (
      omega arith,
      simp length-set l.invariant.1,
      at_more a.self.lines a.line l.i l.at l.invariant.2,
      pair_turn a.self.lines a.line l.i l.at a.input.now a.output.now l.output first (first + a.self.columns)
          c.requires.0 l.invariant.2 l.invariant.3,
    )

pub bounds-input-first : goal.bounds-input-first
bounds-input-first c =
    let a = c.args in
    omega (arith, next_ends a.self.lines a.self.columns a.line c.requires.0, c.requires.1.long)
