use Rattle.std.proofs.Common.{◌∙◌, arith}
use Rattle.reading.proofs.Turns.{takes_unread, takes_end, takes_bytes, is_failed, is_read, is_many}
use Rattle.reading.proofs.inner.take_in.Goals as goal

pub returns-in_default : goal.returns-in_default
returns-in_default c = takes_unread _ _ _ (is_failed _ c.in_default.is)

pub returns-then-bytes-eq0 : goal.returns-then-bytes-eq0
returns-then-bytes-eq0 c = takes_end _ _ _ (is_read _ c.in-Some.is) (is_many _ c.in-Some.is ∙ c.if-bytes-eq0.true) c.finish.ensures

pub returns : goal.returns
returns c =
    takes_bytes c.args.held c.args.got c.args.buf.now _ (is_read c.args.got c.in-Some.is) (is_many c.args.got c.in-Some.is) (omega (arith, c.if-bytes-eq0.false))
    c.requires.inside c.bring.auto.bytes c.bring.ensures
