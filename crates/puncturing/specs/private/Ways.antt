-- Entries between their outputs and their mother places, both ways. No promise to a caller needs this file.
-- Assumes nothing.
use Rattle.std.specs.Prelude.{◌≡◌, List, ℕ, ◌≤◌, ◌<◌, length, get_or, set}
use Rattle.base.specs.Places.{written}
use Rattle.base.specs.private.Places.{Within}
use Rattle.puncturing.specs.Puncturing.{kept_place, punctured, depunctured}

pub data Direction : Type 0 where
  puncturing : Direction
  depuncturing : Direction

-- what the first n entries leave in a target
abbrev pub carried : Direction → ℕ → ℕ → List ℕ → List ℕ → List ℕ
carried puncturing mode n src dst = written (punctured mode n src) dst
carried depuncturing mode n src dst = depunctured mode n src dst

-- source and target are long enough for the first n entries
abbrev pub Holds : Direction → ℕ → ℕ → ℕ → ℕ → Type 0
Holds puncturing mode n src dst = Within (kept_place mode) n src × (n ≤ dst)
Holds depuncturing mode n src dst = Within (kept_place mode) n dst × (n ≤ src)

-- one entry, between place j and its mother place
abbrev pub put : Direction → ℕ → ℕ → List ℕ → List ℕ → List ℕ
put puncturing place j src dst = set dst j (get_or src place 0)
put depuncturing place j src dst = set dst place (get_or src j 0)

abbrev pub Reaches : Direction → ℕ → ℕ → ℕ → ℕ → Type 0
Reaches puncturing place j src dst = (place < src) × (j < dst)
Reaches depuncturing place j src dst = (place < dst) × (j < src)

-- a target that the first from entries led to becomes one that the first to entries lead to
abbrev pub Carries : Direction → ℕ → ℕ → ℕ → List ℕ → List ℕ → List ℕ → Type 0
Carries way mode from to src dst dst' =
    (old : List ℕ) → Holds way mode to (length src) (length old) → dst ≡ carried way mode from src old → dst' ≡ carried way mode to src old
