use borrow.Author.Rules.{rules}
use mathlib.Core.Path.{refl, sym, ap, ◌∙◌}
use mathlib.Core.Bool.{Bool}
use lib.ListN.{replicate}
use Rattle.base.specs.Refusal.{checked}
use Rattle.errorcontrol_tp.proofs.Parts.{verdict}
use Rattle.errorcontrol_tp.proofs.Heard.judge.Goals as goal

-- What was compared says whether the word is good.
pub returns-then-eq : goal.returns-then-eq
returns-then-eq c =
    let h = c.args.self.now in
    ap (λ (t : Bool). checked t (record { disagreements = h.disagreements }))
    (sym c.if-eq.true ∙ c.eq.ensures ∙ verdict h.word (replicate 8 0) c.speech_crc.new.check (search rules) refl c.speech_crc.ensures.1)

pub returns-else-eq : goal.returns-else-eq
returns-else-eq c =
    let h = c.args.self.now in
    ap (λ (t : Bool). checked t (record { disagreements = h.disagreements }))
    (sym c.if-eq.false ∙ c.eq.ensures ∙ verdict h.word (replicate 8 0) c.speech_crc.new.check (search rules) refl c.speech_crc.ensures.1)
