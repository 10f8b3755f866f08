use mathlib.Core.Path.{refl}
use native.Mathlib.Omega.{arith}
use Rattle.puncturing.proofs.Walking.{moved_stays, moved_wraps}
use Rattle.puncturing.proofs.Puncturer.moved.Goals as goal

pub returns-then-index-self : goal.returns-then-index-self
returns-then-index-self c =
    let a = c.args in
    (refl, moved_stays a.self.now a.at a.by c.if-index-self.true refl refl)

pub returns : goal.returns
returns c =
    let a = c.args in
    (refl, moved_wraps a.self.now a.at a.by c.if-index-self.false (omega (arith, c.requires, a.self.now.parameters.t_least)) refl refl)
