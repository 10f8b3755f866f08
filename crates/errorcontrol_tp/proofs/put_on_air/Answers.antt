use Rattle.errorcontrol_tp.specs.Sending.{on_air}
use Rattle.errorcontrol_tp.proofs.put_on_air.Goals as goal

pub returns : goal.returns
unfolding on_air
returns c = c.put_on_air.ensures
