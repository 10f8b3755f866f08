-- How the code makes the outputs of a bit, and goes on over the input. No promise to a caller needs this file.
-- Assumes nothing.
use Rattle.std.specs.Prelude.{◌≡◌, List, [], ◌∷◌, Bool, true, false, ℕ, zero, suc, ◌-◌, eqb, ltb, length, take, get_or}
use Rattle.base.specs.Bits.{both, bits_only}
use Rattle.std.specs.Int.Bits.{bit_xor}
use Rattle.base.specs.Refusal.{accepted}
use Rattle.base.specs.Places.{written}
use Rattle.trellis.specs.Nearest.{encode}
use Rattle.base.specs.Digits.{number}
use Rattle.convenc.specs.Generators.{outputs, encode_refusal}

-- each generator takes the bit itself, and its coefficients are bits
abbrev pub proper : List (List ℕ) → Bool
proper [] = true
proper ([] ∷ code) = false
proper ((c ∷ cs) ∷ code) = both (eqb c 1) (both (bits_only (length cs) cs) (proper code))

-- what holds of each code, and of how many entries it makes of a bit
pub record CodeLaws (rate : ℕ) (code : List (List ℕ)) : Type 0 where
  pub makes : rate ≡ length code
  pub few : ltb 4 rate ≡ false
  pub takes_the_bit : proper code ≡ true

-- exclusive or of x and a list, from the left
abbrev pub xors : ℕ → List ℕ → ℕ
xors x [] = x
xors x (y ∷ ys) = xors (bit_xor x y) ys

-- the delays where the coefficient is 1
abbrev pub picks : List ℕ → List ℕ → List ℕ
picks [] d = []
picks (c ∷ cs) [] = []
picks (zero ∷ cs) (x ∷ d) = picks cs d
picks (suc c ∷ cs) (x ∷ d) = x ∷ picks cs d

-- what the code makes of a bit and the delays for each generator, which takes the bit itself
abbrev pub taps : List (List ℕ) → ℕ → List ℕ → List ℕ
taps [] b d = []
taps ([] ∷ code) b d = 0 ∷ taps code b d
taps ((c ∷ cs) ∷ code) b d = xors b (picks cs d) ∷ taps code b d

-- the four entries before place i, the newest first
abbrev pub newest : List ℕ → ℕ → List ℕ
newest src i = get_or src (i - 1) 0 ∷ get_or src (i - 2) 0 ∷ get_or src (i - 3) 0 ∷ get_or src (i - 4) 0 ∷ []

-- whatever the delays were before, a target with the code of the first four bits becomes one with the code of all
abbrev pub GoesOn : List (List ℕ) → List ℕ → List ℕ → List ℕ → Type 0
GoesOn code src dst dst' = (d old : List ℕ) → length d ≡ 4 → encode_refusal (length code) d src (length old) ≡ accepted
    → dst ≡ written (encode (outputs code) (number d) (take 4 src)) old → dst' ≡ written (encode (outputs code) (number d) src) old
