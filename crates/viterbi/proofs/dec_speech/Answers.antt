use mathlib.Core.Path.{◌≡◌, refl, sym, ◌∙◌}
use lib.ListN.{length}
use Rattle.std.specs.Prelude.{Result, Err, ℕ}
use Rattle.std.proofs.Common.{rules}
use Rattle.base.specs.declared.Refusal.{Refusal}
use Rattle.convenc.specs.Generators.{speech}
use Rattle.viterbi.proofs.Refusals.{accepts}
use Rattle.viterbi.proofs.Answers.{answered, refused}
use Rattle.viterbi.proofs.dec_speech.Goals as goal

pub returns-in_err-refusal : goal.returns-in_err-refusal
returns-in_err-refusal c =
    let e : ◌≡◌ {A = Result ℕ Refusal} c.from_residual.result (Err c.in_err-refusal.field-0.0) = search rules in
    refused (sym (c.refusal.ensures speech refl) ∙ c.in_err-refusal.was) e

pub speech-requires : goal.speech-requires
speech-requires c =
    let a = c.args in
    accepts a.sym_count (length a.in_buf.now) (length a.trellis.now) (length a.out_buf.now) speech (sym (c.refusal.ensures speech refl) ∙ c.in_ok-refusal.was)

pub returns : goal.returns
returns c = answered (sym (c.refusal.ensures speech refl) ∙ c.in_ok-refusal.was) c.speech.ensures
