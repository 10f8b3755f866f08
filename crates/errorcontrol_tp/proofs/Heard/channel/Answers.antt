use borrow.Author.Rules.{rules}
use Rattle.errorcontrol_tp.proofs.Parts.{frame_is}
use Rattle.errorcontrol_tp.proofs.Heard.channel.Goals as goal

pub returns : goal.returns
returns c =
    let h = c.args.self.now in
    frame_is c.args.block.now h.word c.uncoded_bits-bits.result c.copy_from_slice.new.self (search rules) (search rules)
    c.uncoded_bits-bits.ensures c.copy_from_slice.ensures.after c.copy_from_slice-2.new.self c.copy_from_slice-2.ensures.after
