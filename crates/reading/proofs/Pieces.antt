-- Whatever the pieces, the turns say what the definition says of the whole input.
-- Assumes nothing.
use mathlib.Core.Path.{refl, sym, ap, subst, ◌∙◌}
use mathlib.Core.List.{List}
use Prim.Native.Nat.{ℕ}
use lib.ListN.{take}
use Rattle.streaming.specs.Runner.{holding, feed}
use Rattle.reading.specs.declared.Next.{Next}
use Rattle.reading.specs.declared.Turn.{Turn}
use Rattle.reading.specs.Reading.{Stands, Says}
use Rattle.reading.specs.Pieces.{Ran, begins, turns, loses}

pub any_pieces : {input text buf : List ℕ} {turn : Turn} → Ran input text turn buf → Says turn.next input (take turn.kept buf) text turn.count
unfolding feed
any_pieces (begins buf) = refl
any_pieces (turns {input} {text} {was} {from} {held = held} got ran goes kept takes) =
    let stands : Stands input (take held.kept was) text held.count =
    subst (λ (next : Next). Says next input (take held.kept was) text held.count) goes (any_pieces ran) in
    takes.says input text (stands ∙ ap (λ (l : List ℕ). holding l text held.count) (sym kept))
any_pieces (loses ran) = tt
