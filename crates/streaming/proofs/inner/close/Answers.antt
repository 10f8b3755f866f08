use borrow.Author.Rules.{rules}
use Rattle.std.proofs.Common.{arith}
use Rattle.lines.proofs.Placing.{put_same}
use Rattle.streaming.proofs.Closing.{closing_none, closing_cut}
use Rattle.streaming.proofs.inner.close.Goals as goal

pub returns-then-is_empty : goal.returns-then-is_empty
returns-then-is_empty c = (
  closing_none _ _ (search rules) (put_same c.end-end.ensures c.put.ensures.0),
  omega (arith, c.requires.1, c.put.ensures.1, c.put.auto.out),
)

pub returns : goal.returns
returns c = (
  closing_cut _ _ (search rules) (omega (arith, c.requires.1)) (put_same c.record.ensures c.put-next.ensures.0)
      (put_same c.end-end.ensures c.put-2.ensures.0),
  omega (arith, c.requires.1, c.put-next.ensures.1, c.put-next.auto, c.put-2.ensures.1, c.put-2.auto),
)
