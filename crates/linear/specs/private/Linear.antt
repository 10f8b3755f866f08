-- Beside Linear.antt: what only our own contracts and proofs need.
-- Assumes nothing.
use Rattle.std.specs.Prelude.{List, [], ◌∷◌, ◌≡◌, ℕ, zero, suc, ◌^◌, ◌≤◌, ◌<◌, length, get_or}
use Rattle.std.specs.Int.Bits.{bit_xor}

-- the map that leaves a word of n bits as it is
abbrev pub units : ℕ → List ℕ
units zero = []
units (suc n) = 2 ^ n ∷ units n

-- no two columns add up to 0 or to a column, so that one wrong bit is told from none and from two
abbrev pub Separate : List ℕ → Type 0
Separate cs = (i j k : ℕ) → j < i → i < length cs → k ≤ length cs → bit_xor (get_or cs i 0) (get_or cs j 0) ≡ get_or (0 ∷ cs) k 0 → ⊥
