use mathlib.Core.Path.{sym, ◌∙◌}
use lib.ListN.{length}
use Rattle.base.specs.Places.{written}
use Rattle.interleaver.specs.Interleaving.{deinterleaved}
use Rattle.base.proofs.Refusals.{done}
use Rattle.interleaver.proofs.Block.{block_ready, block_collect}
use Rattle.interleaver.proofs.block_deinterleave.Goals as goal

pub collect-requires : goal.collect-requires
collect-requires c =
    let g = c.args in
    let w = c.of_block.result in
    block_ready g.k g.a w.start w.step w.count (length g.input.now) (length g.output.now) c.of_block.ensures
    (sym c.block_refusal.ensures ∙ c.in_ok-block_refusal.was)

pub returns : goal.returns
returns c =
    let g = c.args in
    let w = c.of_block.result in
    done _ (written (deinterleaved g.k g.a g.input.now) g.output.now) g.output.now _ (sym c.block_refusal.ensures ∙ c.in_ok-block_refusal.was)
    (c.collect.ensures ∙ block_collect g.k g.a w.start w.step w.count g.input.now g.output.now c.of_block.ensures)
