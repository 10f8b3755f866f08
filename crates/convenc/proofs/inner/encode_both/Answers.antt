-- The second call goes on from where the first one leaves the encoder.
use mathlib.Core.Path.{refl, sym, subst, ◌∙◌}
use lib.ListN.{length}
use Rattle.std.specs.Result.{IsOk}
use Rattle.convenc.proofs.Calls.{still_accepts, in_turn}
use Rattle.convenc.proofs.inner.encode_both.Goals as goal

pub unwrap-requires-2 : goal.unwrap-requires-2
unwrap-requires-2 c =
    subst IsOk
    (sym (c.encode_lent-2.ensures.answered
    ∙ still_accepts c.args.first.now c.args.second.now c.args.first_output.now _ _ _ _ c.new-e.ensures c.encode_lent.ensures c.requires.0 (length c.args.second_output.now)
    c.requires.1)) refl

pub returns : goal.returns
returns c =
    in_turn c.args.first.now c.args.second.now c.args.first_output.now _ _ _ _ c.new-e.ensures c.encode_lent.ensures c.requires.0
    c.args.second_output.now _ _ _ c.encode_lent-2.ensures c.requires.1
