use borrow.Author.Rules.{rules}
use mathlib.Core.List.{[]}
use Rattle.errorcontrol_tp.proofs.Chains.{first_needs, spare_needs, symbols_made}
use native.Mathlib.Omega.{arith}
use Rattle.errorcontrol_tp.proofs.mother_symbols.Goals as goal

pub depuncture-requires : goal.depuncture-requires
depuncture-requires c =
    let f = first_needs c.args.block.now (search rules) in
    (omega arith, f.0, f.1)

pub depuncture-requires-2 : goal.depuncture-requires-2
depuncture-requires-2 c =
    let d = c.depuncture in
    let f = spare_needs c.args.block.now d.new.mother [] (search rules) d.ensures in
    (omega arith, f.0, f.1)

pub returns : goal.returns
returns c =
    symbols_made c.args.block.now c.depuncture.new.mother c.depuncture-2.new.mother (search rules)
    c.depuncture.ensures c.depuncture-2.ensures
