-- Each code keeps the laws that its loops rest on. No promise to a caller needs this file.
-- Assumes nothing.
use Rattle.std.specs.Prelude.{refl}
use Rattle.convenc.specs.Generators.{control, control_third, speech}
use Rattle.convenc.specs.private.Tapping.{CodeLaws}

pub control_laws : CodeLaws 4 control
control_laws = record { makes = refl; few = refl; takes_the_bit = refl }

pub control_third_laws : CodeLaws 3 control_third
control_third_laws = record { makes = refl; few = refl; takes_the_bit = refl }

pub speech_laws : CodeLaws 3 speech
speech_laws = record { makes = refl; few = refl; takes_the_bit = refl }
