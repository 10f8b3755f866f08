use mathlib.Core.Path.{sym, ◌∙◌}
use lib.ListN.{length}
use Rattle.interleaver.specs.Interleaving.{interleaved}
use Rattle.base.proofs.Refusals.{done}
use Rattle.interleaver.proofs.Block.{block_ready, block_spread}
use Rattle.interleaver.proofs.block_interleave.Goals as goal

pub spread-requires : goal.spread-requires
spread-requires c =
    let g = c.args in
    let w = c.of_block.result in
    block_ready g.k g.a w.start w.step w.count (length g.input.now) (length g.output.now) c.of_block.ensures
    (sym c.block_refusal.ensures ∙ c.in_ok-block_refusal.was)

pub returns : goal.returns
returns c =
    let g = c.args in
    let w = c.of_block.result in
    done _ (interleaved g.k g.a g.input.now g.output.now) g.output.now _ (sym c.block_refusal.ensures ∙ c.in_ok-block_refusal.was)
    (c.spread.ensures ∙ block_spread g.k g.a w.start w.step w.count g.input.now g.output.now c.of_block.ensures)
