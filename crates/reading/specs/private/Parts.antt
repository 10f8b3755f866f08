-- The two parts of a turn: bytes came, or the input ended.
-- Assumes nothing.
use Rattle.std.specs.Prelude.{◌≡◌, ◌⊎◌, List, [], ◌++◌, ℕ, ◌≤◌, ◌<◌, length, take}
use Rattle.streaming.specs.Runner.{holding, start, feed}
use Rattle.streaming.specs.Limits.{LARGEST, LONGEST}
use Rattle.reading.specs.declared.Next.TheVariants.{Goes, Whole, Cut, Unknown, Full}
use Rattle.reading.specs.declared.Turn.{Turn}
use Rattle.reading.specs.Reading.{Stands, Says}

-- bytes came, and the definition has yet to take them
pub record Brings (bytes : List ℕ) (count : ℕ) (r : Turn) (buf out : List ℕ) : Type 0 where
  pub says :
      (input text : List ℕ) → feed start input ≡ feed (holding [] text count) bytes
      → Says r.next input (take r.kept buf) (text ++ take r.written out) r.count
  pub how : (r.next ≡ Goes) ⊎ ((r.next ≡ Unknown) ⊎ (r.next ≡ Full))
  pub kept_in : r.kept ≤ length bytes
  pub fits : r.written ≤ length out
  pub less : r.next ≡ Goes → (r.kept < LONGEST) × (r.count < LARGEST)
  pub moves : r.next ≡ Goes → (count < r.count) ⊎ ((r.count ≡ count) × (r.kept ≡ length bytes))

-- the input ended, and left the rest
pub record Finishes (rest : List ℕ) (count : ℕ) (r : Turn) (out : List ℕ) : Type 0 where
  pub says :
      (input text kept : List ℕ) → Stands input rest text count
      → Says r.next input kept (text ++ take r.written out) r.count
  pub how : (r.next ≡ Whole) ⊎ (r.next ≡ Cut)
  pub fits : r.written ≤ length out
  pub over : r.next ≡ Goes → ⊥
