use Prim.Native.Nat.{◌+◌, ◌*◌}
use native.Mathlib.Omega.{arith}
use lib.ListN.{length}
use Rattle.puncturing.proofs.Walking.{entry_at, reads_place}
use Rattle.puncturing.proofs.Carrying.{carrying_put, holds_reach}
use Rattle.puncturing.proofs.Puncturer.carry_period.Goals as goal

-- read: what is read for entry e.
pub loop-e-preserved : goal.loop-e-preserved
loop-e-preserved g c =
    let l = c.loop-e in
    let read = entry_at c.args.self.now c.args.q l.e c.requires.0 c.loop-e-test.true in
    carrying_put l.invariant (omega arith) (reads_place read) c.carry_entry.ensures

pub carry_entry-requires : goal.carry_entry-requires
carry_entry-requires g c =
    let a = c.args in
    let p = a.self.now in
    let l = c.loop-e in
    let read = entry_at p a.q l.e c.requires.0 c.loop-e-test.true in
    holds_reach g.W.Way.way p.mode (p.t * a.q + p.t) (length a.input.now) (length a.output.now) (length l.output) (p.t * a.q + l.e) (reads_place read)
    (omega arith) l.invariant.kept c.requires.1
