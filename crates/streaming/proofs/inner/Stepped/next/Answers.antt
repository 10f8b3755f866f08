use Rattle.std.proofs.Common.{◌+◌, arith}
use Rattle.lines.proofs.Placing.{put_same}
use Rattle.records.proofs.Laws.{is_unknown}
use Rattle.streaming.proofs.Stepping.{found_item, found_at, body_of, line_of, whole_taken, unknown_taken}
use Rattle.streaming.proofs.inner.Stepped.next.Goals as goal

pub overflow_add-result : goal.overflow_add-result
overflow_add-result c = omega (arith, (is_unknown _ _ (found_item _ _ c.take-found.ensures c.in-Unknown.is)).inside)

pub returns-in-Whole : goal.returns-in-Whole
returns-in-Whole c =
    let can = c.able.ensures.0 c.if-not-able.false in
    let line = line_of (c.args.self.count + 1) c.in-Whole.kind c.answer_to-answer.ensures (body_of _ _ c.take-found.ensures c.in-Whole.is) c.record-line.ensures in
    whole_taken _ _ _ can (found_item _ _ c.take-found.ensures c.in-Whole.is) (found_at _ _ c.take-found.ensures c.in-Whole.is)
    (put_same line c.put.ensures.0) c.put.ensures.1 (omega (arith, can.line, c.put.ensures.1))

pub returns-in-Unknown : goal.returns-in-Unknown
returns-in-Unknown c =
    let can = c.able.ensures.0 c.if-not-able.false in
    let at = c.put-in-Unknown.ensures in
    unknown_taken _ _ _ can (found_item _ _ c.take-found.ensures c.in-Unknown.is)
    (put_same c.record-line-in-Unknown.ensures at.0) at.1 (omega (arith, can.line, at.1))
