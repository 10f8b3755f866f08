use mathlib.Core.Path.{refl}
use Rattle.crc16.specs.Crc.{step}
use Rattle.crc16.proofs.add_bit.Goals as goal

pub returns : goal.returns
unfolding step
returns c = refl
