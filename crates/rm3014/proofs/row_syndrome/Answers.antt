use native.Mathlib.Omega.{arith}
use Rattle.rm3014.specs.Code.{table}
use Rattle.rm3014.proofs.CodeLaws.{row_whole, row_turn}
use Rattle.rm3014.proofs.row_syndrome.Goals as goal

pub loop-j-init : goal.loop-j-init
loop-j-init c = (omega arith, row_whole c.args.k c.requires)

pub overflow_mul-sum : goal.overflow_mul-sum
overflow_mul-sum c =
    let l = c.loop-j in
    omega (arith, (row_turn c.args.k l.j l.sum c.requires (omega arith) l.invariant.0 l.invariant.1).1)

pub overflow_add-sum : goal.overflow_add-sum
unfolding table
overflow_add-sum c =
    let l = c.loop-j in
    omega (arith, (row_turn c.args.k l.j l.sum c.requires (omega arith) l.invariant.0 l.invariant.1).1)

pub loop-j-preserved : goal.loop-j-preserved
unfolding table
loop-j-preserved c =
    let l = c.loop-j in
    (omega arith, (row_turn c.args.k l.j l.sum c.requires (omega arith) l.invariant.0 l.invariant.1).0)
