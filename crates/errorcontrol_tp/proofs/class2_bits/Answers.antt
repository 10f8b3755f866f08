use borrow.Author.Rules.{rules}
use Rattle.errorcontrol_tp.proofs.Parts.{class2_is}
use Rattle.errorcontrol_tp.proofs.class2_bits.Goals as goal

pub returns : goal.returns
returns c =
    let channel = c.args.channel in
    class2_is channel c.copy_from_slice.new.self c.speech_crc.new.check (search rules)
    c.copy_from_slice.ensures.after c.speech_crc.ensures.1
