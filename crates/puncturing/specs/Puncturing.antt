-- The seven puncturing modes (EN 300 392-2, 8.2.3.1.3 to 8.2.3.1.6, and EN 300 395-2, 5.4.3.2 and 5.6.2), numbered 0 to 6.
-- Positions are counted from 1, as in the papers; places from 0.
-- Assumes nothing.
use Rattle.std.specs.Prelude.{List, [], ◌∷◌, ℕ, zero, suc, ◌+◌, ◌-◌, ◌*◌, ◌/◌, ltb, length, get_or}
use Rattle.base.specs.Refusal.{Owed, LIMIT, KIND, accepted, when, sized}
use Rattle.base.specs.Places.{gather, scatter}

-- how many mother positions a period has, by mode
abbrev pub periods : List ℕ
periods = 8 ∷ 8 ∷ 8 ∷ 8 ∷ 6 ∷ 12 ∷ 24 ∷ []

-- the kept positions of a period, by mode
abbrev pub kept : List (List ℕ)
kept =
    (1 ∷ 2 ∷ 5 ∷ [])
    ∷ (1 ∷ 2 ∷ 3 ∷ 5 ∷ 6 ∷ 7 ∷ [])
    ∷ (1 ∷ 2 ∷ 5 ∷ [])
    ∷ (1 ∷ 2 ∷ 3 ∷ 5 ∷ 6 ∷ 7 ∷ [])
    ∷ (1 ∷ 2 ∷ 4 ∷ [])
    ∷ (1 ∷ 2 ∷ 3 ∷ 4 ∷ 5 ∷ 7 ∷ 8 ∷ 10 ∷ 11 ∷ [])
    ∷ (1 ∷ 2 ∷ 3 ∷ 4 ∷ 5 ∷ 7 ∷ 8 ∷ 10 ∷ 11 ∷ 13 ∷ 14 ∷ 16 ∷ 17 ∷ 19 ∷ 20 ∷ 22 ∷ 23 ∷ [])
    ∷ []

-- i(j): modes 292_432 and 148_432 skip one position after each 65 and each 35
abbrev pub index : ℕ → ℕ → ℕ
index mode j = j + get_or (0 ∷ 0 ∷ (j - 1) / 65 ∷ (j - 1) / 35 ∷ []) mode 0

-- k(j) = period blk + P[i - t blk], with i = i(j), t the entries of P, and blk = (i - 1) div t
abbrev pub position_of : ℕ → List ℕ → ℕ → ℕ
position_of period p i = period * ((i - 1) / length p) + get_or p (i - length p * ((i - 1) / length p) - 1) 0

unfoldable pub position : ℕ → ℕ → ℕ
position mode j = position_of (get_or periods mode 0) (get_or kept mode []) (index mode j)

-- output j, from 0, is the mother entry at this place, from 0
abbrev pub kept_place : ℕ → ℕ → ℕ
kept_place mode j = position mode (j + 1) - 1

-- n outputs need k(n) mother entries
unfoldable pub needed : ℕ → ℕ → ℕ
needed mode zero = 0
needed mode (suc n) = position mode (suc n)

abbrev pub puncture_refusal : ℕ → ℕ → ℕ → ℕ → Owed
puncture_refusal mode n src dst = when (ltb 6 mode) KIND (when (ltb 4096 n) LIMIT (sized src (needed mode n) dst n accepted))

abbrev pub depuncture_refusal : ℕ → ℕ → ℕ → ℕ → Owed
depuncture_refusal mode n src dst = when (ltb 6 mode) KIND (when (ltb 4096 n) LIMIT (sized src n dst (needed mode n) accepted))

-- the n outputs that puncturing keeps
abbrev pub punctured : ℕ → ℕ → List ℕ → List ℕ
punctured mode n mother = gather (kept_place mode) n mother

-- the target with the n entries at their mother places; the rest stays
abbrev pub depunctured : ℕ → ℕ → List ℕ → List ℕ → List ℕ
depunctured mode n src dst = scatter (kept_place mode) n src dst
