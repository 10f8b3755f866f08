use borrow.Author.Rules.{rules}
use mathlib.Core.List.{[]}
use Rattle.errorcontrol_tp.proofs.Chains.{gap_long, gap_needs, then_room, rest_long, rest_needs, block_made}
use native.Mathlib.Omega.{arith}
use Rattle.errorcontrol_tp.proofs.block_bits.Goals as goal

pub puncture-requires : goal.puncture-requires
puncture-requires c =
    let s = c.args in
    let copy = c.copy_from_slice in (
      omega arith,
      omega (arith, gap_long s.channel s.mothers.first s.mothers.second copy.new.self [] [] (search rules) (search rules) (search rules) copy.ensures.after),
      gap_needs s.channel s.mothers.first s.mothers.second copy.new.self [] [] (search rules) (search rules) (search rules) copy.ensures.after,
    )

pub puncture-requires-2 : goal.puncture-requires-2
puncture-requires-2 c =
    let s = c.args in
    let copy = c.copy_from_slice in
    let p = c.puncture in (
      omega arith,
      omega (arith, rest_long s.channel s.mothers.first s.mothers.second copy.new.self p.new.coded [] (search rules) (search rules) (search rules) copy.ensures.after p.ensures),
      rest_needs s.channel s.mothers.first s.mothers.second copy.new.self p.new.coded [] (search rules) (search rules) (search rules) copy.ensures.after p.ensures,
    )

pub returns : goal.returns
returns c =
    let a = c.args in
    block_made a.channel a.mothers.first a.mothers.second c.copy_from_slice.new.self c.puncture.new.coded c.puncture-2.new.coded
    (search rules) (search rules) (search rules) c.copy_from_slice.ensures.after c.puncture.ensures c.puncture-2.ensures

pub slice_bounds-block-end-3 : goal.slice_bounds-block-end-3
slice_bounds-block-end-3 c =
    let s = c.args in
    omega (arith, then_room s.channel s.mothers.first s.mothers.second c.copy_from_slice.new.self c.puncture.new.coded [] (search rules) (search rules) (search rules) c.copy_from_slice.ensures.after c.puncture.ensures)
