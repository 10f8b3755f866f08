use borrow.Author.Rules.{rules}
use mathlib.Core.Path.{sym, subst}
use mathlib.Core.List.{List}
use Prim.Native.Nat.{ℕ}
use Rattle.base.specs.Bits.{Bits}
use Rattle.errorcontrol_tp.proofs.Words.{channel_plain, block_plain}
use Rattle.errorcontrol_tp.proofs.Chains.{class2_plain, block_is, slot_is}
use Rattle.errorcontrol_tp.proofs.send.Goals as goal

pub encode_word-mothers-requires : goal.encode_word-mothers-requires
encode_word-mothers-requires c =
    let plain = subst (λ (l : List ℕ). Bits l) (sym c.channel_bits-channel.ensures) (channel_plain c.args.codec.now c.requires.0 c.requires.1) in
    (plain, class2_plain c.channel_bits-channel.result c.class2_bits.result plain c.class2_bits.ensures)

pub put_on_air-requires : goal.put_on_air-requires
put_on_air-requires c =
    let channel = c.channel_bits-channel in
    let mothers = c.encode_word-mothers in
    let plain = subst (λ (l : List ℕ). Bits l) (sym channel.ensures) (channel_plain c.args.codec.now c.requires.0 c.requires.1) in
    subst (λ (l : List ℕ). Bits l)
    (sym (block_is channel.result c.class2_bits.result mothers.result.first mothers.result.second c.block_bits.result (search rules) c.class2_bits.ensures mothers.ensures c.block_bits.ensures))
    (block_plain channel.result (search rules) plain)

pub returns : goal.returns
returns c =
    let a = c.args in
    let mothers = c.encode_word-mothers in
    slot_is a.start a.codec.now c.channel_bits-channel.result c.class2_bits.result mothers.result.first mothers.result.second c.block_bits.result c.put_on_air.result
    (search rules) c.channel_bits-channel.ensures c.class2_bits.ensures mothers.ensures c.block_bits.ensures c.put_on_air.ensures
