-- The kinds of record (document 01, "The runner") and how long a record of each kind is.
-- Assumes nothing.
use Rattle.std.specs.Prelude.{[], ◌∷◌, ℕ, ◌+◌, get_or}

-- how many symbols a record of the kind has: 01 to 04 are control, 05 AACH, 06 a whole speech slot, 07 its second half; 0 for a kind that is not known
unfoldable pub symbols_of : ℕ → ℕ
symbols_of kind = get_or (0 ∷ 120 ∷ 168 ∷ 216 ∷ 432 ∷ 30 ∷ 432 ∷ 216 ∷ []) kind 0

-- how many bytes the body of a record has: a scrambling start of 4 bytes, then symbols
abbrev pub body_length : ℕ → ℕ
body_length kind = 4 + symbols_of kind
