use mathlib.Core.Path.{◌≡◌, refl, ap, ◌∙◌}
use Prim.Native.Nat.{ℕ, ◌*◌}
use native.Mathlib.Omega.{arith}
use lib.ListN.{length}
use Rattle.puncturing.proofs.Walking.{here, reads_place}
use Rattle.puncturing.proofs.Carrying.{carrying_put, carrying_at, carried_none, holds_front, holds_reach}
use Rattle.puncturing.proofs.Puncturer.carry.Goals as goal

-- read: what is read for entry j.
pub overflow_sub-place : goal.overflow_sub-place
overflow_sub-place g c =
    let read = here c.args.self.now c.loop-j.j (omega (arith, c.requires.0)) c.loop-j.at c.loop-j.invariant.0 in
    omega (arith, read.some)

pub carry_entry-requires : goal.carry_entry-requires
carry_entry-requires g c =
    let l = c.loop-j in
    let a = c.args in
    let p = a.self.now in
    let read = here p l.j (omega (arith, c.requires.0)) l.at l.invariant.0 in
    holds_reach g.W.Way.way p.mode a.len (length a.input.now) (length a.output.now) (length l.output) l.j (reads_place read) c.loop-j-test.true
    (l.invariant.1.kept ∙ c.loop-q.invariant.kept) c.requires.1

pub loop-j-preserved : goal.loop-j-preserved
loop-j-preserved g c =
    let l = c.loop-j in
    let read = here c.args.self.now l.j (omega (arith, c.requires.0)) l.at l.invariant.0 in
    (c.next-at.ensures, carrying_put l.invariant.1 refl (reads_place read) c.carry_entry.ensures)

pub returns : goal.returns
returns g c =
    let a = c.args in
    let p = a.self.now in
    let way = g.W.Way.way in
    let first : ℕ = p.t * c.whole_periods-whole.result in
    let front = holds_front way p.mode a.len first (length a.input.now) (length a.output.now) (length a.output.now) c.whole_periods-whole.ensures.0 refl c.requires.1 in
    let whole : c.loop-q.q ≡ c.whole_periods-whole.result = omega (arith, c.loop-q.auto, c.loop-q-test.false) in
    carrying_at c.loop-j.invariant.1 (omega (arith, c.loop-j.auto, c.whole_periods-whole.ensures.0)) a.output.now c.requires.1
    (carrying_at c.loop-q.invariant (ap (λ (n : ℕ). p.t * n) whole) a.output.now front (carried_none way p.mode a.input.now a.output.now))
