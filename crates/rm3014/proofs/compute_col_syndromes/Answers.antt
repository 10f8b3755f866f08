use Prim.Native.Nat.{ℕ}
use mathlib.Core.Path.{◌≡◌, refl, ap, ap₂, ◌∙◌}
use mathlib.Core.List.{List}
use native.Mathlib.Omega.{arith}
use lib.ListN.{get_or, set, replicate}
use Rattle.base.specs.Places.{tabulate, written}
use Rattle.base.proofs.Lists.{write_none, write_more}
use Rattle.rm3014.specs.Code.{columns}
use Rattle.rm3014.proofs.CodeLaws.{columns_written}
use Rattle.rm3014.proofs.compute_col_syndromes.Goals as goal

abbrev zeros : List ℕ
zeros = replicate 30 0

abbrev column : ℕ → ℕ
column k = get_or columns k 0

pub loop-k-init : goal.loop-k-init
loop-k-init c = (omega arith, write_none column zeros)

pub loop-k-preserved : goal.loop-k-preserved
loop-k-preserved c =
    let l = c.loop-k in
    (omega arith, ap₂ (λ (out : List ℕ) (x : ℕ). set out l.k x) l.invariant.1 c.col_syndrome.ensures ∙ write_more column l.k zeros (omega arith))

pub returns : goal.returns
returns c =
    let l = c.loop-k in
    let e : l.k ≡ 30 = omega arith in
    l.invariant.1 ∙ ap (λ (k : ℕ). written (tabulate column k) zeros) e ∙ columns_written zeros refl
