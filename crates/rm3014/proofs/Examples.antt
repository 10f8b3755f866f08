-- Document 01's bench values for the code, from the definitions alone.
-- Assumes nothing.
use mathlib.Core.Path.{◌≡◌, refl}
use Rattle.base.specs.Places.{tabulate}
use Rattle.rm3014.specs.Code.{table, parity, code_word, columns, syndrome, place_of}
use Rattle.rm3014.specs.Verdict.{verdict}
use Rattle.rm3014.specs.declared.Verdict.TheVariants.{Clean, Mended, Beyond}

pub bench : (code_word 0x2000 ≡ 0x20009b60) × (verdict 0x20009b60 ≡ Clean 0x2000) × (verdict 0x20009b61 ≡ Mended 30 0x2000) × (verdict 0x30009b61 ≡ Beyond 0x3000)
unfolding table parity code_word columns syndrome place_of tabulate
bench = (refl, refl, refl, refl)
