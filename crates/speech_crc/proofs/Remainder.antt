-- Long division gives the remainder: what is divided is the quotient times the divisor, and what is left.
-- Assumes nothing.
use mathlib.Core.Path.{◌≡◌, refl, ap, ap₂, ◌∙◌}
use mathlib.Core.List.{List, [], ◌∷◌}
use Prim.Native.Nat.{ℕ, zero, suc, ◌+◌, ◌*◌, ◌%◌, ◌≤◌, ◌<◌}
use native.Mathlib.Omega.{arith}
use lib.ListN.{length}
use Rattle.base.specs.Bits.{Bits}
use Rattle.speech_crc.specs.Check.{divisor, added, divided}
use Rattle.speech_crc.proofs.Shape.{added_bits}

-- the leading coefficients that long division takes away, the highest degree first
abbrev pub quotient : ℕ → List ℕ → List ℕ
quotient zero w = []
quotient (suc n) [] = []
quotient (suc n) (b ∷ w) = b ∷ quotient n (added b divisor w)

-- q times X^7 + X^3 + 1, plus r: each coefficient of q adds the divisor, its leading term on the coefficient's own place
abbrev pub product_plus : List ℕ → List ℕ → List ℕ
product_plus [] r = r
product_plus (b ∷ q) r = b ∷ added b divisor (product_plus q r)

once_more : (c b g : ℕ) → c < 2 → ((c + b * g) % 2 + b * g) % 2 ≡ c
once_more c b g h = go (b * g)
  where
    go : (x : ℕ) → ((c + x) % 2 + x) % 2 ≡ c
    go x = omega arith

-- adding the same twice changes nothing
added_twice : (b : ℕ) (g w : List ℕ) → Bits w → added b g (added b g w) ≡ w
added_twice b [] w h = refl
added_twice b (x ∷ g) [] h = refl
added_twice b (x ∷ g) (c ∷ w) h = ap₂ (λ (y : ℕ) (l : List ℕ). y ∷ l) (once_more c b x h.0) (added_twice b g w h.1)

length_added : (b : ℕ) (g w : List ℕ) → length (added b g w) ≡ length w
length_added b [] w = refl
length_added b (x ∷ g) [] = refl
length_added b (x ∷ g) (c ∷ w) = ap suc (length_added b g w)

pub division : (n : ℕ) (w : List ℕ) → Bits w → n ≤ length w → product_plus (quotient n w) (divided n w) ≡ w
unfolding divided
division zero w h k = refl
division (suc n) [] h k = absurd (omega arith)
division (suc n) (b ∷ w) h k =
    ap (λ (l : List ℕ). b ∷ l)
    (ap (added b divisor) (division n (added b divisor w) (added_bits b divisor w h.1) (omega (arith, length_added b divisor w))) ∙ added_twice b divisor w h.1)
