-- Bits, one per entry, and received symbols: 0 and 1 are bits, every other byte is an erasure.
-- Assumes nothing.
use Rattle.std.specs.Prelude.{List, [], ◌∷◌, Bool, true, ℕ, zero, suc, ◌<◌, ltb}
pub use Rattle.std.specs.Prelude.{◌&&◌ as both, ◌||◌ as either}

-- a list of 0 and 1
abbrev pub Bits : List ℕ → Type 0
Bits [] = Unit {0}
Bits (b ∷ w) = (b < 2) × Bits w

-- each of the first n entries is 0 or 1
abbrev pub bits_only : ℕ → List ℕ → Bool
bits_only zero s = true
bits_only (suc n) [] = true
bits_only (suc n) (b ∷ s) = both (ltb b 2) (bits_only n s)

-- the entry of an erasure
abbrev pub ERASED : ℕ
ERASED = 0xff

-- what it costs that the symbol r was received where the bit y was sent: an erasure nothing, a bit 1 where it is the other
abbrev pub disagrees : ℕ → ℕ → ℕ
disagrees zero y = y
disagrees (suc zero) zero = 1
disagrees (suc zero) (suc y) = 0
disagrees (suc (suc r)) y = 0

-- 1 for a symbol that is a bit, 0 for an erasure
abbrev pub known : ℕ → ℕ
known zero = 1
known (suc zero) = 1
known (suc (suc r)) = 0
