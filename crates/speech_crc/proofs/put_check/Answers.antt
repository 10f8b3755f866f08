use borrow.Author.Rules.{rules}
use mathlib.Core.Path.{◌≡◌, ap, ◌∙◌}
use mathlib.Core.List.{List, foldr}
use Prim.Native.Nat.{ℕ, ◌+◌, ◌%◌}
use lib.ListN.{length, get_or}
use Rattle.base.specs.Places.{tabulate, written}
use Rattle.speech_crc.proofs.Sums.{data_taken, check_is}
use Rattle.speech_crc.proofs.put_check.Goals as goal

pub returns : goal.returns
returns c =
    let a = c.args in
    let left = c.divide-left in
    let long : length left.result ≡ 7 = search rules in
    c.put.ensures
    ∙ ap (λ (l : List ℕ). written l a.check.now)
    (check_is a.class2.now left.result long left.ensures c.parity.result c.parity-2.result
    (c.parity.ensures ∙ ap (λ (l : List ℕ). foldr ◌+◌ 0 l % 2) (data_taken a.class2.now c.requires.0))
    (c.parity-2.ensures ∙ ap (λ (n : ℕ). foldr ◌+◌ 0 (tabulate (λ i. get_or left.result i 0 % 2) n) % 2) long))
