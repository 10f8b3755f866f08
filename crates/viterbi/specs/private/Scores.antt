-- Signed scores: what the decoder's own functions promise one another.
-- A match lowers a score by one and a mismatch raises it by one, so n mismatches among k known symbols make 2 n less k.
-- Assumes nothing.
use Rattle.std.specs.Prelude.{◌≡◌, cond, List, [], ◌∷◌, reverse, ℕ, zero, suc, ◌+◌, ◌*◌, ◌/◌, ◌%◌, ◌^◌, ◌-◌, ◌≤◌, ◌<◌, ℤ, pos, negsuc, neg_ℤ, ◌+ℤ◌, ◌-ℤ◌, length, get_or, take}
use Rattle.std.specs.Int.Signed.{mag, lt_z}
use Rattle.base.specs.Bits.{disagrees, known}
use Rattle.base.specs.Places.{tabulate, written}
use Rattle.trellis.specs.Nearest.{total}
use Rattle.trellis.specs.Walk.{branch, steps}
use Rattle.trellis.specs.Trellis.{metric, choice}
use Rattle.convenc.specs.Generators.{outputs}
use Rattle.viterbi.specs.Decoding.{cleared}

-- ---- signed numbers: z is `up z` less `down z`, and one of the two is 0
abbrev pub up : ℤ → ℕ
up (pos n) = n
up (negsuc n) = 0

abbrev pub down : ℤ → ℕ
down (pos n) = 0
down (negsuc n) = suc n

-- the score z stands for the cost n among k known symbols
abbrev pub Stands : ℤ → ℕ → ℕ → Type 0
Stands z n k = up z + k ≡ 2 * n + down z

-- P of each of the sixteen entries
abbrev pub Sixteen : (ℤ → Type 0) → List ℤ → Type 0
Sixteen P zs = (s : ℕ) → s < 16 → P (get_or zs s (pos 0))

-- entry s is f s
abbrev pub Holds : (ℕ → ℤ) → List ℤ → Type 0
Holds f zs = (s : ℕ) → s < 16 → get_or zs s (pos 0) ≡ f s

-- the binary digit of weight 2 ^ s is f s
abbrev pub Marks : (ℕ → ℕ) → ℕ → Type 0
Marks f n = (s : ℕ) → s < 16 → n / 2 ^ s % 2 ≡ f s

-- each entry is at least - h and below h
abbrev pub Small : ℕ → List ℤ → Type 0
Small h = Sixteen (λ z. mag z < h)

-- ---- the order of the states: the arrays count them with the newest bit lowest, the trellis with the newest bit highest
-- the four binary digits of a state read backwards
unfoldable pub mirrored : ℕ → ℕ
mirrored s = s % 2 * 8 + s / 2 % 2 * 4 + s / 4 % 2 * 2 + s / 8 % 2

-- the state before s whose oldest bit was x, in the order of the arrays
abbrev pub earlier : ℕ → ℕ → ℕ
earlier x s = s / 2 + 8 * x

-- ---- the table of expected bits: -1 for 0, 1 for 1
-- what generator j's row expects at state s, if the bit before the state's four was 0
abbrev pub sign_at : List (List ℤ) → ℕ → ℕ → ℤ
sign_at t j s = get_or (get_or t j []) s (pos 0)

-- -1, 0 or 1
abbrev pub Trit : ℤ → Type 0
Trit e = (up e ≤ 1) × (down e ≤ 1)

-- -1 or 1, for the bits 0 and 1
abbrev pub Sign : ℤ → Type 0
Sign e = up e + down e ≡ 1

-- the bit of a sign
abbrev pub bit_of : ℤ → ℕ
bit_of (pos n) = n
bit_of (negsuc n) = 0

-- k rows of signs, and rows of zeros after them
pub record Table (k : ℕ) (t : List (List ℤ)) : Type 0 where
  pub least : 2 < k
  pub most : k < 5
  pub signs : (j s : ℕ) → j < k → s < 16 → Sign (sign_at t j s)
  pub rest : (j s : ℕ) → k ≤ j → j < 4 → s < 16 → sign_at t j s ≡ pos 0

-- the oldest bit of a window turns what is expected round
abbrev pub turned : ℕ → ℕ → ℕ
turned zero b = b
turned (suc x) b = 1 - b

-- the symbols that the table says of a window
abbrev pub told : ℕ → List (List ℤ) → ℕ → List ℕ
told k t x = tabulate (λ j. turned (x % 2) (bit_of (sign_at t j (mirrored (x / 2))))) k

-- the table says of each window what the code does
pub record Tells (code : List (List ℕ)) (k : ℕ) (t : List (List ℤ)) : Type 0 where
  pub rate : length code ≡ k
  pub says : (x : ℕ) → x < 32 → told k t x ≡ outputs code x

-- ---- branches
-- what a received symbol adds to a branch that expects the sign e
abbrev pub score_of : ℕ → ℤ → ℤ
score_of zero e = e
score_of (suc zero) e = neg_ℤ e
score_of (suc (suc r)) e = pos 0

-- the row of a symbol: the bit itself, or 2 for every erasure
abbrev pub class_of : ℕ → ℕ
class_of zero = 0
class_of (suc zero) = 1
class_of (suc (suc r)) = 2

-- the class of each symbol that a byte can be
abbrev pub Classes : List ℕ → Type 0
Classes l = (r : ℕ) → r < 256 → get_or l r 0 ≡ class_of r

-- one row for each class, of what its symbols add where the signs e are expected
abbrev pub Rows : List ℤ → List (List ℤ) → Type 0
Rows e rows = (c s : ℕ) → c < 3 → s < 16 → get_or (get_or rows c []) s (pos 0) ≡ score_of c (get_or e s (pos 0))

-- the branch into state s whose oldest bit is 0, by the k symbols from `at` on; of three the last stands again before the row of zeros
abbrev pub branch_of : List (List ℤ) → ℕ → List ℕ → ℕ → ℕ → ℤ
branch_of t k src at s =
    score_of (get_or src at 0) (sign_at t 0 s) +ℤ score_of (get_or src (at + 1) 0) (sign_at t 1 s) +ℤ score_of (get_or src (at + 2) 0) (sign_at t 2 s)
    +ℤ score_of (get_or src (at + (k - 1)) 0) (sign_at t 3 s)

-- ---- a step
-- the scores of the two ways into state s, by an oldest bit 0 and by an oldest bit 1
abbrev pub first_way : List ℤ → List ℤ → ℕ → ℤ
first_way m b s = get_or m (earlier 0 s) (pos 0) +ℤ get_or b s (pos 0)

abbrev pub second_way : List ℤ → List ℤ → ℕ → ℤ
second_way m b s = get_or m (earlier 1 s) (pos 0) -ℤ get_or b s (pos 0)

-- of two ways the second is taken only where its score is smaller: the score that is taken, and its oldest bit
abbrev pub better : ℤ → ℤ → ℤ
better p q = cond (lt_z q p) q p

abbrev pub oldest : ℤ → ℤ → ℕ
oldest p q = cond (lt_z q p) 1 0

-- the scores m and the branch scores b make new ones, and `taken` has the oldest bit of the way into each state
pub record Turned (m b new : List ℤ) (taken : ℕ) : Type 0 where
  pub scores : Holds (λ s. better (first_way m b s) (second_way m b s)) new
  pub bits : Marks (λ s. oldest (first_way m b s) (second_way m b s)) taken

-- ---- the pass over the symbols, and the walk back
-- the cost that a state begins with
abbrev pub handicap : ℕ → ℕ
handicap zero = 0
handicap (suc s) = 2048

-- the costs of the branches at the first n steps
abbrev pub received : ℕ → List (List ℤ) → List ℕ → ℕ → List (ℕ → ℕ)
received k t src n = steps disagrees (told k t) k src n

-- after n steps each score stands for its path's cost, and the trellis holds the choices
pub record Forward (k : ℕ) (t : List (List ℤ)) (src : List ℕ) (n : ℕ) (m : List ℤ) (was now : List ℕ) : Type 0 where
  pub scores : (s : ℕ) → s < 16 → Stands (get_or m s (pos 0)) (metric handicap (received k t src n) (mirrored s)) (total known (take (k * n) src))
  pub choices : (i : ℕ) → i < n → Marks (λ s. choice handicap (branch disagrees (told k t) k src i) (received k t src i) (mirrored s)) (get_or now i 0)
  pub long : length now ≡ length was
  pub rest : (i : ℕ) → n ≤ i → get_or now i 0 ≡ get_or was i 0

-- the bits that a walk back over n steps of a trellis meets, the last first
abbrev pub walk : List ℕ → ℕ → ℕ → List ℕ
walk trellis zero s = []
walk trellis (suc i) s = s % 2 ∷ walk trellis i (earlier (get_or trellis i 0 / 2 ^ s % 2) s)

-- the state in which it ends
abbrev pub walk_end : List ℕ → ℕ → ℕ → ℕ
walk_end trellis zero s = s
walk_end trellis (suc i) s = walk_end trellis i (earlier (get_or trellis i 0 / 2 ^ s % 2) s)

-- the walk wrote its bits over the front of the target, in the order of the air, and cleared what it read
pub record Back (n : ℕ) (trellis trellis' target target' : List ℕ) : Type 0 where
  pub word : target' ≡ written (reverse (walk trellis n 0)) target
  pub clears : trellis' ≡ cleared n trellis
