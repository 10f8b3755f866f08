use mathlib.Core.Path.{sym, ◌∙◌}
use lib.ListN.{length}
use Rattle.base.specs.Places.{written}
use Rattle.interleaver.specs.Interleaving.{matrix_deinterleaved}
use Rattle.base.proofs.Refusals.{done}
use Rattle.interleaver.proofs.Matrix.{matrix_accepted, matrix_back, fits_matrix_place}
use Rattle.interleaver.proofs.matrix_deinterleave.Goals as goal

pub returns : goal.returns
returns c =
    let g = c.args in
    let accepted = sym c.matrix_refusal.ensures ∙ c.in_ok-matrix_refusal.was in
    let fits = matrix_accepted g.lines g.columns (length g.input.now) (length g.output.now) accepted in
    done _ (written (matrix_deinterleaved g.lines g.columns g.input.now) g.output.now) g.output.now _ accepted
    (c.move_lines.ensures ∙ matrix_back g.lines g.columns g.input.now g.output.now fits.room)

pub move_lines-requires : goal.move_lines-requires
move_lines-requires c =
    let g = c.args in
    fits_matrix_place g.lines g.columns (length g.input.now) (length g.output.now)
    (matrix_accepted g.lines g.columns (length g.input.now) (length g.output.now) (sym c.matrix_refusal.ensures ∙ c.in_ok-matrix_refusal.was))
