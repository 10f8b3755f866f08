use borrow.Author.Rules.{rules}
use Rattle.reading.proofs.Parts.{finishes_whole, finishes_cut}
use Rattle.reading.proofs.inner.finish.Goals as goal

pub returns-then-is_empty : goal.returns-then-is_empty
returns-then-is_empty c =
    finishes_whole _ _ c.close-written.ensures.0 c.close-written.ensures.1 (search rules)

pub returns : goal.returns
returns c =
    finishes_cut _ _ c.close-written.ensures.0 c.close-written.ensures.1 (search rules)
