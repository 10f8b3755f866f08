-- The tables of expected bits that the decoders are given have a row of signs for each generator, and rows of zeros after them.
-- Assumes nothing.
use mathlib.Core.Path.{◌≡◌, ap}
use mathlib.Core.Bool.{Bool, true, false, cond}
use mathlib.Core.List.{List}
use Prim.Native.Nat.{ℕ, ◌+◌, ◌<◌}
use native.Mathlib.Omega.{arith}
use lib.Dec.{T, eqb, ltb, eqb→eq}
use borrow.Author.Tests.{le-ltb}
use lib.IntN.{ℤ, pos, negsuc}
use Rattle.base.specs.Bits.{both, either}
use Rattle.base.proofs.Table.{both_left, both_right, below, at}
use Rattle.convenc.specs.Generators.{tapped}
use Rattle.viterbi.specs.private.Scores.{up, down, mirrored, Sign, sign_at, Table}
use Rattle.viterbi.proofs.Tables.{control_table, speech_table}

is_sign : ℤ → Bool
is_sign e = eqb (up e + down e) 1

sign_of : (e : ℤ) → T (is_sign e) → Sign e
unfolding is_sign
sign_of e h = eqb→eq (up e + down e) 1 h

is_nought : ℤ → Bool
is_nought (pos n) = eqb n 0
is_nought (negsuc n) = false

nought_of : (e : ℤ) → T (is_nought e) → e ≡ pos 0
unfolding is_nought
nought_of (pos n) h = ap pos (eqb→eq n 0 h)
nought_of (negsuc n) h = absurd h

-- the first k rows hold signs, and the others zeros
signs_in : ℕ → List (List ℤ) → Bool
signs_in k t = below (λ j. below (λ s. is_sign (sign_at t j s)) 16) k

noughts_in : ℕ → List (List ℤ) → Bool
noughts_in k t = below (λ j. below (λ s. either (ltb j k) (is_nought (sign_at t j s))) 16) 4

either_of : (a b : Bool) → a ≡ false → T (either a b) → T b
either_of true b e h = absurd (omega (arith, ap {B = ℕ} (λ (t : Bool). cond t 1 0) e))
either_of false b e h = h

table_of : (k : ℕ) (t : List (List ℤ)) → 2 < k → k < 5 → T (both (signs_in k t) (noughts_in k t)) → Table k t
unfolding signs_in noughts_in
table_of k t h l e =
    record {
      least = h;
      most = l;
      signs = λ j s p q. sign_of (sign_at t j s) (at (λ s. is_sign (sign_at t j s)) 16 (at (λ j. below (λ s. is_sign (sign_at t j s)) 16) k
          (both_left (signs_in k t) (noughts_in k t) e) j p) s q);
      rest = λ j s p q o. nought_of (sign_at t j s) (either_of (ltb j k) (is_nought (sign_at t j s)) (le-ltb j k p)
          (at (λ s. either (ltb j k) (is_nought (sign_at t j s))) 16 (at (λ j. below (λ s. either (ltb j k) (is_nought (sign_at t j s))) 16) 4
          (both_right (signs_in k t) (noughts_in k t) e) j q) s o));
    }

pub control_table_lem : Table 4 control_table
unfolding tapped mirrored control_table signs_in noughts_in is_sign is_nought
control_table_lem = table_of 4 control_table (omega arith) (omega arith) tt

pub speech_table_lem : Table 3 speech_table
unfolding tapped mirrored speech_table signs_in noughts_in is_sign is_nought
speech_table_lem = table_of 3 speech_table (omega arith) (omega arith) tt
