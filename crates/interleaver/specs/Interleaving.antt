-- The block interleaver (EN 300 392-2, 8.2.4.1) and the matrix interleaver (EN 300 395-2, 5.5.3).
-- Entries and places are counted from 0 here: place i of 1..k is entry i - 1.
-- Assumes nothing.
use Rattle.std.specs.Prelude.{List, Bool, false, ℕ, zero, suc, ◌+◌, ◌*◌, ◌/◌, ◌%◌, ltb, eqb}
use Rattle.base.specs.Refusal.{Owed, LIMIT, SHUFFLE, accepted, when, sized}
use Rattle.base.specs.Bits.{both, either}
use Rattle.base.specs.Places.{gather, scatter}

-- ---- block: place i of 1..k goes to 1 + (a i mod k)
abbrev pub place : ℕ → ℕ → ℕ → ℕ
place k a i = a * (i + 1) % k

-- d goes into n without remainder
abbrev pub divides : ℕ → ℕ → Bool
divides d n = eqb (n % d) 0

-- some whole number from 2 to m + 1 divides both k and a
abbrev pub shared_up_to : ℕ → ℕ → ℕ → Bool
shared_up_to zero k a = false
shared_up_to (suc m) k a = either (both (divides (m + 2) k) (divides (m + 2) a)) (shared_up_to m k a)

-- some whole number above 1 divides both k and a, for k at least 1: it is at most k
unfoldable pub shared : ℕ → ℕ → Bool
shared zero a = false
shared (suc k) a = shared_up_to k (suc k) a

-- what is refused for src entries of source and dst of target
abbrev pub block_refusal : ℕ → ℕ → ℕ → ℕ → Owed
block_refusal k a src dst = when (ltb 4096 k) LIMIT (when (ltb 65535 a) LIMIT (when (shared k a) SHUFFLE (sized src k dst k accepted)))

-- the target after interleaving: each entry at its place, the rest as it was
abbrev pub interleaved : ℕ → ℕ → List ℕ → List ℕ → List ℕ
interleaved k a src dst = scatter (place k a) k src dst

-- the k entries that deinterleaving writes
abbrev pub deinterleaved : ℕ → ℕ → List ℕ → List ℕ
deinterleaved k a src = gather (place k a) k src

-- ---- matrix: entry j columns + i goes to i lines + j
abbrev pub matrix_place : ℕ → ℕ → ℕ → ℕ
matrix_place lines columns x = x % columns * lines + x / columns

-- what is refused for src entries of source and dst of target
abbrev pub matrix_refusal : ℕ → ℕ → ℕ → ℕ → Owed
matrix_refusal lines columns src dst =
    when (ltb 4096 lines) LIMIT
    (when (ltb 4096 columns) LIMIT (when (ltb 4096 (lines * columns)) LIMIT (sized src (lines * columns) dst (lines * columns) accepted)))

-- the target after interleaving: each entry at its place, the rest as it was
abbrev pub matrix_interleaved : ℕ → ℕ → List ℕ → List ℕ → List ℕ
matrix_interleaved lines columns src dst = scatter (matrix_place lines columns) (lines * columns) src dst

-- the lines * columns entries that deinterleaving writes
abbrev pub matrix_deinterleaved : ℕ → ℕ → List ℕ → List ℕ
matrix_deinterleaved lines columns src = gather (matrix_place lines columns) (lines * columns) src
