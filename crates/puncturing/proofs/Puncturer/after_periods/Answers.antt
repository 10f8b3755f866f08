use mathlib.Core.Path.{refl}
use Rattle.puncturing.proofs.Walking.{stands_after}
use Rattle.puncturing.proofs.Puncturer.after_periods.Goals as goal

pub returns : goal.returns
returns c = stands_after c.args.self.now c.args.whole c.requires refl refl refl
