use mathlib.Core.Path.{◌≡◌, refl, ap, ◌∙◌}
use mathlib.Core.List.{List}
use Prim.Native.Nat.{ℕ, ◌+◌, ◌-◌, ◌*◌}
use native.Mathlib.Nat.{zero-mul}
use native.Mathlib.Omega.{arith}
use lib.ListN.{length}
use Rattle.base.specs.Places.{scatter}
use Rattle.base.proofs.Moves.{scatter_none, scatter_length}
use Rattle.interleaver.specs.Interleaving.{matrix_place}
use Rattle.interleaver.specs.private.Lines.{line_moved}
use Rattle.interleaver.proofs.Matrix.{line_more, pair_more}
use Rattle.interleaver.proofs.Grid.move_lines.Goals as goal

pub loop-pair-init : goal.loop-pair-init
loop-pair-init c =
    let a = c.args in
    let none : 0 ≡ 0 * a.self.columns = omega (arith, zero-mul a.self.columns) in
    (omega arith, refl, scatter_none _ _ _ ∙ ap (λ (n : ℕ). scatter (matrix_place a.self.lines a.self.columns) n a.input.now a.output.now) none)

pub loop-pair-preserved : goal.loop-pair-preserved
loop-pair-preserved c =
    let a = c.args in
    let l = c.loop-pair in
    let line = 2 * l.pair in
    let next : line + 2 ≡ 2 * (l.pair + 1) = omega arith in
    let moved =
    c.move_pair.ensures
    ∙ ap (λ (out : List ℕ). line_moved a.self.lines a.self.columns (line + 1) a.input.now (line_moved a.self.lines a.self.columns line a.input.now out)) l.invariant.2
    ∙ pair_more a.self.lines a.self.columns line (omega arith) a.input.now a.output.now
    ∙ ap (λ (n : ℕ). scatter (matrix_place a.self.lines a.self.columns) (n * a.self.columns) a.input.now a.output.now) next in
    (omega arith, ap length moved ∙ scatter_length (matrix_place a.self.lines a.self.columns) (2 * (l.pair + 1) * a.self.columns) a.input.now a.output.now, moved)

pub returns-then-self-eq1 : goal.returns-then-self-eq1
returns-then-self-eq1 c =
    let a = c.args in
    let l = c.loop-pair in
    let last : 2 * l.pair ≡ a.self.lines - 1 = omega arith in
    let all : a.self.lines - 1 + 1 ≡ a.self.lines = omega arith in
    c.move_line.ensures
    ∙ ap (line_moved a.self.lines a.self.columns (a.self.lines - 1) a.input.now) (l.invariant.2 ∙ ap (λ (n : ℕ). scatter (matrix_place a.self.lines a.self.columns) (n * a.self.columns) a.input.now a.output.now) last)
    ∙ line_more a.self.lines a.self.columns (a.self.lines - 1) (omega arith) a.input.now a.output.now
    ∙ ap (λ (n : ℕ). scatter (matrix_place a.self.lines a.self.columns) (n * a.self.columns) a.input.now a.output.now) all

pub returns-else-self-eq1 : goal.returns-else-self-eq1
returns-else-self-eq1 c =
    let a = c.args in
    let l = c.loop-pair in
    let all : 2 * l.pair ≡ a.self.lines = omega arith in
    l.invariant.2 ∙ ap (λ (n : ℕ). scatter (matrix_place a.self.lines a.self.columns) (n * a.self.columns) a.input.now a.output.now) all
