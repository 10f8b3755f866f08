-- The eight check bits of speech class 2 (EN 300 395-2, 5.5.1): the remainder of X^7 times the data by X^7 + X^3 + 1, and a parity.
-- A polynomial over two elements is the list of its coefficients, the highest degree first.
-- Assumes nothing.
use mathlib.Core.List.{List, [], ◌∷◌, ◌++◌, foldr}
use Rattle.std.specs.Prelude.{ℕ, zero, suc, ◌+◌, ◌-◌, ◌*◌, ◌%◌, get_or, replicate}
use Rattle.base.specs.Refusal.{Owed, accepted, sized}
use Rattle.base.specs.Places.{tabulate}

-- the divisor X^7 + X^3 + 1 after its leading term
abbrev pub divisor : List ℕ
divisor = 0 ∷ 0 ∷ 0 ∷ 1 ∷ 0 ∷ 0 ∷ 1 ∷ []

-- b times the list g is added, mod 2, to the front of w
abbrev pub added : ℕ → List ℕ → List ℕ → List ℕ
added b [] w = w
added b (g ∷ gs) [] = []
added b (g ∷ gs) (c ∷ w) = (c + b * g) % 2 ∷ added b gs w

-- long division: the leading coefficient is taken away by adding the divisor that many times, n coefficients one after the other
unfoldable pub divided : ℕ → List ℕ → List ℕ
divided zero w = w
divided (suc n) [] = []
divided (suc n) (b ∷ w) = divided n (added b divisor w)

-- the 60 data bits: the lowest bits of the first 60 entries
abbrev pub data_bits : List ℕ → List ℕ
data_bits src = tabulate (λ i. get_or src i 0 % 2) 60

-- X^7 times the data, where data bit k has degree k: the last data bit comes first
abbrev pub dividend : List ℕ → List ℕ
dividend bits = tabulate (λ i. get_or bits (59 - i) 0) 60 ++ replicate 7 0

-- the remainder's seven coefficients, the highest degree first
abbrev pub remainder : List ℕ → List ℕ
remainder bits = divided 60 (dividend bits)

-- the remainder, the lowest degree first, then the parity over the data and the remainder
unfoldable pub speech_check : List ℕ → List ℕ
speech_check src =
    tabulate (λ i. get_or (remainder (data_bits src)) (6 - i) 0) 7
    ++ ((foldr ◌+◌ 0 (data_bits src) + foldr ◌+◌ 0 (remainder (data_bits src))) % 2 ∷ [])

abbrev pub check_refusal : ℕ → ℕ → Owed
check_refusal src dst = sized src 60 dst 8 accepted
