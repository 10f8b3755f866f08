-- The new scores and choices are those of the two ways into each state.
use Rattle.viterbi.proofs.Ways.{first_ways_small, second_ways_small, ways_turn}
use Rattle.viterbi.proofs.inner.advance.Goals as goal

pub lessers-next-requires : goal.lessers-next-requires
lessers-next-requires c =
    let a = c.args in
    let p = c.first_ways-p in
    let q = c.second_ways-q in
    (first_ways_small a.old.m a.b p.result c.requires.0 c.requires.1 p.ensures, second_ways_small a.old.m a.b q.result c.requires.0 c.requires.1 q.ensures)

pub choices-requires : goal.choices-requires
choices-requires c =
    let a = c.args in
    let p = c.first_ways-p in
    let q = c.second_ways-q in
    (first_ways_small a.old.m a.b p.result c.requires.0 c.requires.1 p.ensures, second_ways_small a.old.m a.b q.result c.requires.0 c.requires.1 q.ensures)

pub returns : goal.returns
returns c =
    let a = c.args in
    let p = c.first_ways-p in
    let q = c.second_ways-q in
    let n = c.lessers-next in
    ways_turn a.old.m a.b p.result q.result n.result c.choices.result p.ensures q.ensures n.ensures c.choices.ensures
