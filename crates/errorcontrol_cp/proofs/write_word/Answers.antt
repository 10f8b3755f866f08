-- The data goes over the front of the zeros, and the check after it.
use Rattle.errorcontrol_cp.proofs.Parts.{word_made}
use Rattle.errorcontrol_cp.proofs.write_word.Goals as goal

pub returns : goal.returns
returns c =
    let a = c.args in
    word_made a.«data».now a.word.now c.copy_from_slice.new.self c.requires c.copy_from_slice.ensures.after c.write_check.new.target c.write_check.ensures
