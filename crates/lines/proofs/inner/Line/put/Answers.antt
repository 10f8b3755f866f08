use Rattle.std.proofs.Common.{length, sym, ap, ◌∙◌, arith}
use lib.Seq.{length-take-le}
use Rattle.lines.proofs.Placing.{put_part}
use Rattle.lines.proofs.inner.Line.put.Goals as goal

pub returns : goal.returns
returns c =
    let line = c.self in (
      put_part (c.copy_from_slice.ensures.after ∙ line.view_is)
          (sym (length-take-le _ _ (omega (arith, line.invariant, line.told))) ∙ ap length line.view_is),
      omega (arith, line.invariant),
    )
