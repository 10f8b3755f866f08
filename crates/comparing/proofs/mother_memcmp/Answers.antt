use mathlib.Core.Path.{sym, ap, ◌∙◌}
use Rattle.std.specs.Prelude.{Some}
use Rattle.comparing.proofs.Matching.{some_differ, none_differ}
use Rattle.comparing.proofs.mother_memcmp.Goals as goal

pub returns-then-differing-ne0 : goal.returns-then-differing-ne0
returns-then-differing-ne0 c =
    sym (some_differ c.args.mother.now c.args.depunct.now c.min-n.result c.min-n.ensures (λ e. c.if-differing-ne0.true (c.differing.ensures ∙ e)))

pub returns : goal.returns
returns c =
    ap Some c.unerased_among.ensures
    ∙ sym (none_differ c.args.mother.now c.args.depunct.now c.min-n.result c.min-n.ensures (sym c.differing.ensures ∙ c.if-differing-ne0.false))
