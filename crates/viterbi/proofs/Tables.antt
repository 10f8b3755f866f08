-- The tables of expected bits, worked out from the generators: each is its code's.
-- Assumes nothing.
use mathlib.Core.Path.{◌≡◌, refl, ap₂}
use mathlib.Core.Bool.{Bool, true, false}
use mathlib.Core.List.{List, [], ◌∷◌, ◌++◌, map}
use Prim.Native.Nat.{ℕ, zero, suc, ◌*◌}
use lib.Dec.{T, eqb, eqb→eq}
use lib.IntN.{ℤ, pos, negsuc}
use lib.ListN.{length, replicate}
use Rattle.base.specs.Bits.{both}
use Rattle.base.specs.Places.{tabulate}
use Rattle.base.proofs.Table.{both_left, both_right, below, at}
use Rattle.convenc.specs.Generators.{control, speech, tapped, outputs}
use Rattle.viterbi.specs.private.Scores.{mirrored, told, Tells}

-- ---- a code's table
abbrev sign : ℕ → ℤ
sign zero = negsuc 0
sign (suc b) = pos 1

abbrev states : List ℕ
states = 0 ∷ 1 ∷ 2 ∷ 3 ∷ 4 ∷ 5 ∷ 6 ∷ 7 ∷ 8 ∷ 9 ∷ 10 ∷ 11 ∷ 12 ∷ 13 ∷ 14 ∷ 15 ∷ []

-- what a generator gives at each state after a bit 0
abbrev row : List ℕ → List ℤ
row g = map (λ s. sign (tapped g (2 * mirrored s))) states

unfoldable pub control_table : List (List ℤ)
control_table = map row control

unfoldable pub speech_table : List (List ℤ)
speech_table = map row speech ++ (replicate 16 (pos 0) ∷ [])

-- ---- tests
same : List ℕ → List ℕ → Bool
same [] [] = true
same [] (b ∷ v) = false
same (a ∷ w) [] = false
same (a ∷ w) (b ∷ v) = both (eqb a b) (same w v)

same_of : (w v : List ℕ) → T (same w v) → w ≡ v
unfolding same
same_of [] [] h = refl
same_of [] (b ∷ v) h = absurd h
same_of (a ∷ w) [] h = absurd h
same_of (a ∷ w) (b ∷ v) h = ap₂ (λ (x : ℕ) (l : List ℕ). x ∷ l) (eqb→eq a b (both_left (eqb a b) (same w v) h)) (same_of w v (both_right (eqb a b) (same w v) h))

tells_of : (code : List (List ℕ)) (k : ℕ) (t : List (List ℤ)) → length code ≡ k → T (below (λ x. same (told k t x) (outputs code x)) 32) → Tells code k t
tells_of code k t e h = record { rate = e; says = λ x l. same_of (told k t x) (outputs code x) (at (λ x. same (told k t x) (outputs code x)) 32 h x l) }

-- ---- the two codes
pub control_tells : Tells control 4 control_table
unfolding tapped mirrored control_table same tabulate
control_tells = tells_of control 4 control_table refl tt

pub speech_tells : Tells speech 3 speech_table
unfolding tapped mirrored speech_table same tabulate
speech_tells = tells_of speech 3 speech_table refl tt
