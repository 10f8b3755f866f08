-- What the code gathers of two words before it answers how they compare. No promise to a caller needs this file.
-- Assumes nothing.
use Rattle.std.specs.Prelude.{List, [], ◌∷◌, Bool, true, false, ℕ, ◌+◌, eqb}
use Rattle.std.specs.List.{fold, zip}
use Rattle.std.specs.Int.Bits.{bit_or}
use Rattle.base.specs.Bits.{ERASED}

abbrev pub unless_erased : Bool → ℕ → ℕ
unless_erased true n = 0
unless_erased false n = n

abbrev pub unlike : Bool → ℕ
unlike true = 0
unlike false = 1

-- 1 for an entry that is compared
abbrev pub counts : ℕ → ℕ
counts d = unless_erased (eqb d ERASED) 1

-- 1 for an entry that is compared and differs
abbrev pub difference : ℕ → ℕ → ℕ
difference m d = unless_erased (eqb d ERASED) (unlike (eqb d m))

-- how many entries are compared
unfoldable pub unerased : List ℕ → ℕ
unerased [] = 0
unerased (d ∷ ds) = counts d + unerased ds

-- 1 where some entries differ, up to the shorter length
abbrev pub differing : List ℕ → List ℕ → ℕ
differing ms ds = fold (λ found pair. bit_or found (difference pair.0 pair.1)) 0 (zip ms ds)
