-- Where all entries are bits, receiving makes of them what sending does.
use mathlib.Core.Path.{sym, ◌∙◌}
use Rattle.scrambler.proofs.Blocks.{send_done}
use Rattle.scrambler.proofs.tetra_scramb_bits.Goals as goal

pub returns-then-bits_only : goal.returns-then-bits_only
returns-then-bits_only c =
    let a = c.args in
    let r = send_done a.lfsr_init a.block.now (sym c.bits_only.ensures ∙ c.if-bits_only.true) in
    (r.0, c.tetra_descramb_bits.ensures ∙ r.1)
