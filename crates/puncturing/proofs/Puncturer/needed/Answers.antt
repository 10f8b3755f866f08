use mathlib.Core.Path.{sym, ap, ◌∙◌}
use Rattle.std.specs.Prelude.{Ok}
use Prim.Native.Nat.{◌-◌}
use native.Mathlib.Omega.{arith}
use borrow.Author.Tests.{le-ltb}
use Rattle.puncturing.proofs.Modes.{needed_none, needed_some}
use Rattle.puncturing.proofs.Walking.{reads}
use Rattle.puncturing.proofs.Puncturer.needed.Goals as goal

pub returns-then-n-eq0 : goal.returns-then-n-eq0
returns-then-n-eq0 c =
    let a = c.args in
    rw (le-ltb 4096 a.n (omega arith)) (ap Ok (sym (needed_none a.self.now.mode a.n c.if-n-eq0.true)))

-- The position of the last output, by the formula: what is read for it.
pub returns : goal.returns
returns c =
    let a = c.args in
    let last = reads a.self.now (a.n - 1) (omega arith) in
    rw (le-ltb 4096 a.n (omega arith)) (ap Ok (last.position ∙ sym (needed_some a.self.now.mode a.n c.if-n-eq0.false)))
