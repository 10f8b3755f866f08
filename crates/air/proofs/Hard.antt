-- Channels of hard symbols: 0, 1 and erasures.
-- Assumes nothing.
use mathlib.Core.List.{List}
use Prim.Native.Nat.{ℕ, ◌<◌}
use Rattle.air.specs.Channel.{hard}
use Rattle.air.proofs.Symbols.{disagrees_self, disagrees_filled}
use Rattle.air.proofs.Channel.{Lawful}

-- every hard symbol fits
abbrev pub Any : ℕ → Type 0
Any r = Unit {0}

pub hard_lawful : {Air : Type 0} (bits carriers : ℕ) (place : ℕ → ℕ) (sends : List ℕ → ℕ → ℕ) (symbol : Air → ℕ → ℕ)
    → ((w : List ℕ) (j : ℕ) → j < carriers → sends w (place j) < 2) → Lawful (hard bits carriers place sends symbol) Any
hard_lawful bits carriers place sends symbol plain =
    record { plain = plain; clearest = λ r y z u. disagrees_filled r y z; free = disagrees_self }
