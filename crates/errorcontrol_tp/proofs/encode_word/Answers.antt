use borrow.Author.Rules.{rules}
use mathlib.Core.Path.{refl}
use lib.ListN.{replicate}
use Rattle.errorcontrol_tp.proofs.Chains.{both_accepted, mother_is}
use native.Mathlib.Omega.{arith}
use Rattle.errorcontrol_tp.proofs.encode_word.Goals as goal

pub encode_both-requires : goal.encode_both-requires
encode_both-requires c =
    both_accepted c.args.channel c.args.class2 (search rules) c.requires.0 (search rules) c.requires.1 336 216 (omega arith) (omega arith)

pub returns : goal.returns
returns c =
    mother_is c.args.channel c.args.class2 (search rules) c.requires.0 (search rules) c.requires.1 (replicate 336 0) c.encode_both.new.first_output (replicate 216 0) c.encode_both.new.second_output refl refl
    c.encode_both.ensures
