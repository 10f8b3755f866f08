use Rattle.std.proofs.Common.{◌≡◌, ℕ, List, Option, ◌+◌, ◌-◌, length, take, drop, sym, ap, subst, ◌∙◌, arith, length-drop}
use Rattle.std.specs.Io.KnownBytes.{Appends}
use Rattle.std.proofs.KnownBytes.{Appends-trans}
use lib.Seq.{take-add, take-length}
use Rattle.runner.proofs.transfer.write_all.Goals as goal

-- the part from a place to the end is all that stands there
rest : (at : ℕ) (text : List ℕ) → take (length text - at) (drop at text) ≡ drop at text
rest at text = ap (λ (n : ℕ). take n (drop at text)) (sym (length-drop at text)) ∙ take-length (drop at text)

-- what stood before the place was written, and so much behind it
further :
    (had mid has : Option (List ℕ)) (at put : ℕ) (text : List ℕ) → Appends had mid (take at text)
    → Appends mid has (take put (take (length text - at) (drop at text))) → Appends had has (take (at + put) text)
further had mid has at put text a b =
    subst (Appends had has) (sym (take-add at put text))
    (Appends-trans had mid has (take at text) (take put (drop at text)) a (subst (λ (l : List ℕ). Appends mid has (take put l)) (rest at text) b))

pub loop-from-preserved : goal.loop-from-preserved
loop-from-preserved g c =
    let at = c.loop-from.from in
    let text = c.args.text.now in
    let put = c.in_ok-from.ensures in
    (omega (arith, length-drop at text, put.within, ap length (rest at text)), further _ _ _ at _ text c.loop-from.invariant.1 put.went)
