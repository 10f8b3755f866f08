-- The digits stand behind the front, which is longer by them.
use Rattle.std.proofs.Common.{ℕ, List, ◌++◌, ◌+◌, ◌-◌, length, drop, sym, ap, ◌≡◌, ◌∙◌, arith}
use lib.ListN.{length-drop}
use lib.Seq.{length-take-le}
use Rattle.lines.specs.Text.{hex}
use Rattle.lines.proofs.Laws.{hex_length}
use Rattle.lines.proofs.Placing.{pushed}
use Rattle.lines.proofs.inner.Line.push_hex.Goals as goal

pub returns : goal.returns
returns c =
    let k = c.args.digits in
    let n = c.args.n in
    let at = c.self.inside.length in
    let text = c.self.inside.text in
    let front : length c.args.self.now ≡ at = ap length (sym c.self.view_is) ∙ length-take-le at text (omega (arith, c.self.invariant, c.self.told)) in
    let room : at + k - at ≡ k = omega arith in
    let part = length-take-le (at + k - at) (drop at text) (omega (arith, length-drop at text, c.self.told, c.requires, front)) ∙ room in
    pushed (hex k n) c.hex_digits.new.digits text at k (omega (arith, c.self.invariant, c.self.told))
    (c.hex_digits.ensures ∙ ap (λ (j : ℕ). hex j n) part) (sym (hex_length k n))
    ∙ ap (λ (l : List ℕ). l ++ hex k n) c.self.view_is
