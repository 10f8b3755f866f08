-- The mother codes by their generator polynomials: control (EN 300 392-2, 8.2.3.1.1) and speech (EN 300 395-2, 5.4.3.1).
-- Assumes nothing.
use Rattle.std.specs.Prelude.{◌≡◌, List, [], ◌∷◌, ◌++◌, map, reverse, not, ℕ, ◌*◌, ◌%◌, ltb, length, take}
use Rattle.base.specs.Refusal.{Owed, LIMIT, ROOM, BIT, accepted, when, unless}
use Rattle.base.specs.Places.{written}
use Rattle.base.specs.Bits.{bits_only}
use Rattle.base.specs.Digits.{digits, number, dot}
use Rattle.trellis.specs.Nearest.{encode}

-- a generator is the list of its coefficients, of D^0 to D^4
abbrev pub control : List (List ℕ)
control =
    (1 ∷ 1 ∷ 0 ∷ 0 ∷ 1 ∷ [])
    ∷ (1 ∷ 0 ∷ 1 ∷ 1 ∷ 1 ∷ [])
    ∷ (1 ∷ 1 ∷ 1 ∷ 0 ∷ 1 ∷ [])
    ∷ (1 ∷ 1 ∷ 0 ∷ 1 ∷ 1 ∷ [])
    ∷ []

-- the rate 1/3 form keeps the first three
abbrev pub control_third : List (List ℕ)
control_third = take 3 control

abbrev pub speech : List (List ℕ)
speech = (1 ∷ 1 ∷ 1 ∷ 1 ∷ 1 ∷ []) ∷ (1 ∷ 1 ∷ 0 ∷ 1 ∷ 1 ∷ []) ∷ (1 ∷ 0 ∷ 1 ∷ 0 ∷ 1 ∷ []) ∷ []

-- a generator's output for the window x of five bits: the newest bit, of weight 16, and the four before it
unfoldable pub tapped : List ℕ → ℕ → ℕ
tapped g x = dot g (digits 5 x) % 2

-- the outputs of all generators, in their order
abbrev pub outputs : List (List ℕ) → ℕ → List ℕ
outputs gs x = map (λ g. tapped g x) gs

-- an empty input succeeds whatever the delays hold
abbrev pub encode_refusal : ℕ → List ℕ → List ℕ → ℕ → Owed
encode_refusal rate delayed [] dst = accepted
encode_refusal rate delayed (b ∷ src) dst =
    when (ltb 4096 (length (b ∷ src))) LIMIT
    (when (ltb dst (rate * length (b ∷ src))) ROOM
    (when (not (bits_only (length (b ∷ src)) (b ∷ src))) BIT (when (not (bits_only 4 delayed)) BIT accepted)))

-- the four delays after an input: its last bits, the newest first, and what the delays held before it
abbrev pub delays : List ℕ → List ℕ → List ℕ
delays delayed src = take 4 (reverse src ++ delayed)

-- what an encoder of this code answers, hands back and leaves in its target; it goes on from the number that the delays say, the newest first
pub record Encoded (code : List (List ℕ)) (delayed src dst : List ℕ) (answer : Owed) (delayed' dst' : List ℕ) : Type 0 where
  pub answered : answer ≡ encode_refusal (length code) delayed src (length dst)
  pub target : dst' ≡ unless (encode_refusal (length code) delayed src (length dst)) (written (encode (outputs code) (number delayed) src) dst) dst
  pub state : delayed' ≡ unless (encode_refusal (length code) delayed src (length dst)) (delays delayed src) delayed
