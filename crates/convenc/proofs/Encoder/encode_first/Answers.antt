-- The delays after the input are its last bits.
use mathlib.Core.Path.{◌∙◌}
use Rattle.convenc.proofs.Delays.{newest_last}
use Rattle.convenc.proofs.Encoder.encode_first.Goals as goal

pub returns : goal.returns
returns g c =
    let a = c.args in
    (c.from.ensures ∙ c.last_bits.ensures ∙ newest_last a.self.delayed a.input.now c.if-input-lt4.false, c.encode_each-2.ensures.1)
