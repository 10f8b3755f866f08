use native.Mathlib.Omega.{arith}
use Rattle.scrambler.proofs.Starts.{start_fits, start_none, start_colour}
use Rattle.scrambler.proofs.tetra_scramb_get_init.Goals as goal

pub returns-then-colour-eq0 : goal.returns-then-colour-eq0
returns-then-colour-eq0 c =
    let a = c.args in
    start_fits a.mcc a.mnc a.colour 0 (omega arith) (omega arith) (omega arith) (start_none a.mcc a.mnc a.colour c.if-colour-eq0.true)

pub returns : goal.returns
returns c =
    let a = c.args in
    start_fits a.mcc a.mnc a.colour _ (omega arith) (omega arith) (omega arith) (start_colour a.mcc a.mnc a.colour c.if-colour-eq0.false)
