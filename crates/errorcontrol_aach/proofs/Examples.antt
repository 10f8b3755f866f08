-- Document 01's access field: the 30 bits of 0x20009b61 under start 0.
-- Assumes nothing.
use mathlib.Core.Path.{◌≡◌, refl}
use Rattle.base.specs.Digits.{digits}
use Rattle.base.specs.Places.{tabulate}
use Rattle.scrambler.specs.Scrambling.{new_bit, next, output}
use Rattle.scrambler.specs.private.Scrambling.{nexts}
use Rattle.rm3014.specs.Code.{table, columns, syndrome, place_of}
use Rattle.std.specs.Prelude.{Ok}
use Rattle.rm3014.specs.declared.Verdict.TheVariants.{Mended}
use Rattle.errorcontrol_aach.specs.Receiving.{verdict_from, answer_of}

pub of_one_wrong_bit : answer_of 0 (digits 30 0x20009b61) ≡ Ok (Mended 30 0x2000)
unfolding verdict_from tabulate new_bit next nexts output table columns syndrome place_of
of_one_wrong_bit = refl
