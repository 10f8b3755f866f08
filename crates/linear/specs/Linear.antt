-- Linear maps over GF(2) on numbers. A map is the list of its columns, in the order of the word's bits, the most significant first.
-- Places of a word are counted from 1, from the left.
-- Assumes nothing.
use Rattle.std.specs.Prelude.{List, [], ◌∷◌, cond, ℕ, ◌+◌, ◌-◌, ◌*◌, ◌/◌, ◌%◌, ◌^◌, eqb, length}
use Rattle.std.specs.Int.Bits.{bit_xor}

-- the sum, bit by bit mod 2, of the columns, each times its bit of the word
abbrev pub image : List ℕ → ℕ → ℕ
image [] word = 0
image (c ∷ cs) word = bit_xor (word / 2 ^ length cs % 2 * c) (image cs word)

-- the word of n bits with the bit at the place turned
abbrev pub turned : ℕ → ℕ → ℕ → ℕ
turned n place word = bit_xor word (2 ^ (n - place))

-- the first place, counted on from k, at which s stands in the list; 0 where it stands nowhere
abbrev pub place_from : ℕ → ℕ → List ℕ → ℕ
place_from k s [] = 0
place_from k s (c ∷ cs) = cond (eqb c s) k (place_from (k + 1) s cs)
