use mathlib.Core.Path.{sym, ◌∙◌}
use borrow.Author.Tests.{le-ltb}
use Rattle.base.proofs.BitLaws.{bits_only_whole}
use Rattle.errorcontrol_tp.proofs.send_refusal.Goals as goal

pub returns-then-not-bits_only : goal.returns-then-not-bits_only
returns-then-not-bits_only c =
    let a = c.args in
    let other = sym (bits_only_whole 274 a.codec.now c.if-codec-lt274.false) ∙ sym c.bits_only.ensures ∙ c.if-not-bits_only.true in
    rw (le-ltb _ _ c.if-codec-lt274.false, le-ltb _ _ c.if-air-count.false, other)

pub returns : goal.returns
returns c =
    let a = c.args in
    let plain = sym (bits_only_whole 274 a.codec.now c.if-codec-lt274.false) ∙ sym c.bits_only.ensures ∙ c.if-not-bits_only.false in
    rw (le-ltb _ _ c.if-codec-lt274.false, le-ltb _ _ c.if-air-count.false, plain)
