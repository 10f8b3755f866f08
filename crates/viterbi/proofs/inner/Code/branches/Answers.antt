use mathlib.Core.Path.{◌∙◌}
use native.Mathlib.Omega.{arith}
use lib.ListN.{get_or}
use mathlib.Core.List.{[]}
use Rattle.viterbi.proofs.Branches.{rows_branch, rows_trit, table_trit}
use Rattle.viterbi.proofs.inner.Code.branches.Goals as goal

pub sums-requires : goal.sums-requires
sums-requires c =
    let code = c.args.self in
    let t = code.expected in
    let rows = c.requires.0 in
    let trit = table_trit code.rate t code.table in (
      rows_trit (get_or t 0 []) _ (trit 0 (omega arith)) (rows 0 (omega arith)) c.class-p.result c.class-p.ensures.1,
      rows_trit (get_or t 1 []) _ (trit 1 (omega arith)) (rows 1 (omega arith)) c.class-q.result c.class-q.ensures.1,
      rows_trit (get_or t 2 []) _ (trit 2 (omega arith)) (rows 2 (omega arith)) c.class-r.result c.class-r.ensures.1,
      rows_trit (get_or t 3 []) _ (trit 3 (omega arith)) (rows 3 (omega arith)) c.class-s.result c.class-s.ensures.1,
    )

pub returns : goal.returns
returns c s h =
    let a = c.args in
    let code = a.self in
    let rows = c.requires.0 in
    let p = c.class-p in
    let q = c.class-q in
    let r = c.class-r in
    let o = c.class-s in
    c.sums.ensures s h
    ∙ rows_branch code.rate code.expected a.source.now a.at s h (get_or a.rows.now 0 []) (get_or a.rows.now 1 []) (get_or a.rows.now 2 []) (get_or a.rows.now 3 [])
    p.result q.result r.result o.result p.ensures.0 q.ensures.0 r.ensures.0 o.ensures.0
    (rows 0 (omega arith)) (rows 1 (omega arith)) (rows 2 (omega arith)) (rows 3 (omega arith))
