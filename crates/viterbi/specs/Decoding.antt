-- What the decoders answer: demand 3's word and its disagreements.
-- Assumes nothing.
use Rattle.std.specs.Prelude.{◌≡◌, Result, List, ◌++◌, ℕ, ◌*◌, ltb, length, take, drop, replicate}
use Rattle.base.specs.declared.Refusal.{Refusal}
use Rattle.base.specs.Refusal.{Owed, LIMIT, ROOM, accepted, when, sized, unless, valued}
use Rattle.base.specs.Bits.{disagrees, known}
use Rattle.base.specs.Places.{written}
use Rattle.trellis.specs.Nearest.{encode, distance, total, nearest}
use Rattle.convenc.specs.Generators.{outputs}

-- the symbols that n steps use
abbrev pub used : List (List ℕ) → ℕ → List ℕ → List ℕ
used code n src = take (length code * n) src

-- the unerased symbols that a word's encoding from the zero state disagrees with
abbrev pub disagreements : List (List ℕ) → ℕ → List ℕ → List ℕ → ℕ
disagreements code n src w = distance disagrees (used code n src) (encode (outputs code) 0 w)

-- the nearest word of n bits
abbrev pub decoded : List (List ℕ) → ℕ → List ℕ → List ℕ
decoded code n src = nearest (disagreements code n src) n

-- the unerased symbols among those that n steps use
abbrev pub unerased : List (List ℕ) → ℕ → List ℕ → ℕ
unerased code n src = total known (used code n src)

-- in the order of document 01
abbrev pub decode_refusal : List (List ℕ) → ℕ → ℕ → ℕ → ℕ → Owed
decode_refusal code n src trellis dst = when (ltb 864 n) LIMIT (sized src (length code * n) trellis n (when (ltb dst n) ROOM accepted))

-- the first n entries 0; the rest stays
abbrev pub cleared : ℕ → List ℕ → List ℕ
cleared n trellis = replicate n 0 ++ drop n trellis

-- what an entry owes for n steps of a code: its answer, whose value is the number of disagreements, and what target and trellis hold at the end, all of them for all inputs
pub record Decodes (code : List (List ℕ)) (n : ℕ) (src target target' trellis trellis' : List ℕ) (r : Result ℕ Refusal) : Type 0 where
  pub answers : r ≡ valued (decode_refusal code n (length src) (length trellis) (length target)) (disagreements code n src (decoded code n src))
  pub writes : target' ≡ unless (decode_refusal code n (length src) (length trellis) (length target)) (written (decoded code n src) target) target
  pub clears : trellis' ≡ unless (decode_refusal code n (length src) (length trellis) (length target)) (cleared n trellis) trellis
