use mathlib.Core.Path.{sym, ◌∙◌}
use native.Mathlib.Omega.{arith}
use lib.ListN.{length}
use Rattle.puncturing.specs.Puncturing.{needed}
use Rattle.puncturing.proofs.Refusing.{counted, roomy}
use Rattle.puncturing.proofs.Carrying.{holds_puncturing}
use Rattle.puncturing.proofs.get_punctured_rate.Goals as goal

pub carry-requires : goal.carry-requires
carry-requires c =
    let a = c.args in
    let p = c.in_ok-p.p in
    let count = counted a.len (needed p.mode a.len) c.in_ok-mother.mother c.in_ok-mother.ensures in
    let room = roomy (length a.input.now) c.in_ok-mother.mother (length a.output.now) a.len (sym c.sized.ensures ∙ c.in_ok-sized.was) in
    (count.0, holds_puncturing p.mode a.len (length a.input.now) (length a.output.now) p.parameters.kind (omega (arith, room, count.1)) (omega (arith, room, count.1)))
