-- A channel: words are sent as bits at places of the air, and symbols come back from it.
-- What a symbol is, what it costs against a bit, and how the air is read are any.
-- Assumes nothing.
use Rattle.std.specs.Prelude.{◌≡◌, List, ◌⊎◌, ℕ, zero, suc, ◌+◌, ◌<◌}
use Rattle.base.specs.Bits.{disagrees}

pub record Channel (Air A : Type 0) : Type 0 where
  -- how many bits a word has
  pub bits : ℕ
  -- how many symbols of the air carry a word, and where the j-th of them stands
  pub carriers : ℕ
  pub place : ℕ → ℕ
  -- the bit that a word sends at a place of the air
  pub sends : List ℕ → ℕ → ℕ
  -- the symbol that was received there
  pub symbol : Air → ℕ → A
  -- what a received symbol costs where a bit was sent
  pub cost : A → ℕ → ℕ
  -- the symbol that a sent bit arrives as when nothing happens to it
  pub clear : ℕ → A

-- a channel whose symbols are 0, 1 and erasures
abbrev pub hard : {Air : Type 0} → ℕ → ℕ → (ℕ → ℕ) → (List ℕ → ℕ → ℕ) → (Air → ℕ → ℕ) → Channel Air ℕ
hard bits carriers place sends symbol =
    record { bits = bits; carriers = carriers; place = place; sends = sends; symbol = symbol; cost = disagrees; clear = λ y. y }

-- f 0 + f 1 + .. + f (n - 1)
abbrev pub sum : (ℕ → ℕ) → ℕ → ℕ
sum f zero = 0
sum f (suc n) = f 0 + sum (λ i. f (suc i)) n

-- how far what was received is from a word: the sum, over the places that carry it, of what their symbols cost against the bits that it sends
abbrev pub distance_of : {Air A : Type 0} → Channel Air A → Air → List ℕ → ℕ
distance_of c air w = sum (λ j. c.cost (c.symbol air (c.place j)) (c.sends w (c.place j))) c.carriers

-- of the places that carry w, any were turned into the bit that w sends there, and the others are as they were; all other places are free
abbrev pub Turned : {Air A : Type 0} → Channel Air A → List ℕ → Air → Air → Type 0
Turned c w air other =
    (j : ℕ) → j < c.carriers → (c.symbol other (c.place j) ≡ c.symbol air (c.place j)) ⊎ (c.symbol other (c.place j) ≡ c.clear (c.sends w (c.place j)))

-- what was received is w as it was sent; places that carry nothing of it are free
abbrev pub Undamaged : {Air A : Type 0} → Channel Air A → List ℕ → Air → Type 0
Undamaged c w air = (j : ℕ) → j < c.carriers → c.symbol air (c.place j) ≡ c.clear (c.sends w (c.place j))
