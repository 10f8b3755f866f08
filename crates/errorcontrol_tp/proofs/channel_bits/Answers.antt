use lib.ListN.{length, replicate}
use Rattle.base.proofs.Moves.{gather_length}
use Rattle.tch_reorder.specs.Order.{channel_of, codec_place}
use Rattle.stages.proofs.Calls.{whole}
use Rattle.errorcontrol_tp.proofs.Parts.{reorder_free}
use native.Mathlib.Omega.{arith}
use Rattle.errorcontrol_tp.proofs.channel_bits.Goals as goal

pub returns : goal.returns
returns c =
    let codec = c.args.codec.now in
    whole _ (channel_of codec) (replicate 274 0) c.codec_to_channel.new.channel
    (reorder_free (length codec) 274 (omega arith) (omega arith)) (gather_length codec_place 274 codec) c.codec_to_channel.ensures.1
