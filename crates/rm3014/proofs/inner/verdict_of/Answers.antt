use mathlib.Core.Path.{◌≡◌, sym, ap, ◌∙◌}
use native.Mathlib.Omega.{arith}
use Prim.Native.Nat.{◌+◌}
use Rattle.rm3014.specs.Code.{place_of}
use Rattle.rm3014.proofs.CodeLaws.{place_le}
use Rattle.rm3014.proofs.VerdictLaws.{place_at_column, place_by_column, found_clean, found_beyond, found_mended, mended_fits}
use Rattle.rm3014.proofs.inner.verdict_of.Goals as goal

pub returns-then-sum-eq0 : goal.returns-then-sum-eq0
returns-then-sum-eq0 c =
    found_clean c.args.codeword c.syndrome_of-sum.result c.syndrome_of-sum.ensures c.if-sum-eq0.true

pub returns-in_default : goal.returns-in_default
returns-in_default c =
    let s = c.syndrome_of-sum in
    let nowhere : 0 ≡ place_of s.result = ap place_at_column (sym c.in_default.is) ∙ place_by_column s.result c.column_of.result c.column_of.ensures in
    found_beyond c.args.codeword s.result 0 s.ensures c.if-sum-eq0.false nowhere (omega arith)

-- the column stands at the place
stands : (c : goal.In-Some) → c.in-Some.i + 1 ≡ place_of c.syndrome_of-sum.result
stands c =
    ap place_at_column (sym c.in-Some.is) ∙ place_by_column c.syndrome_of-sum.result c.column_of.result c.column_of.ensures

pub overflow_add-place : goal.overflow_add-place
overflow_add-place c = omega (arith, stands c, place_le c.syndrome_of-sum.result)

pub overflow_sub-mended : goal.overflow_sub-mended
overflow_sub-mended c = omega (arith, stands c, place_le c.syndrome_of-sum.result)

pub overflow_cast-result-2 : goal.overflow_cast-result-2
overflow_cast-result-2 c = omega (arith, stands c, place_le c.syndrome_of-sum.result)

pub overflow_cast-result-3 : goal.overflow_cast-result-3
overflow_cast-result-3 c =
    record { fits = mended_fits c.args.codeword c.syndrome_of-sum.result (c.in-Some.i + 1) c.requires (stands c) (omega arith) }

pub returns : goal.returns
returns c =
    found_mended c.args.codeword c.syndrome_of-sum.result (c.in-Some.i + 1) c.syndrome_of-sum.ensures c.if-sum-eq0.false (stands c) (omega arith)
