-- What every code of generators gives.
-- Assumes nothing.
use mathlib.Core.Path.{◌≡◌, refl, ap}
use mathlib.Core.List.{List, [], ◌∷◌}
use Prim.Native.Nat.{ℕ, suc, ◌<◌}
use native.Mathlib.Omega.{arith}
use lib.ListN.{length}
use Rattle.base.specs.Bits.{Bits}
use Rattle.convenc.specs.Generators.{tapped, outputs}

pub outputs_length : (code : List (List ℕ)) (x : ℕ) → length (outputs code x) ≡ length code
outputs_length [] x = refl
outputs_length (g ∷ code) x = ap suc (outputs_length code x)

tapped_lt : (g : List ℕ) (x : ℕ) → tapped g x < 2
unfolding tapped
tapped_lt g x = omega arith

pub outputs_bits : (code : List (List ℕ)) (x : ℕ) → Bits (outputs code x)
outputs_bits [] x = tt
outputs_bits (g ∷ code) x = (tapped_lt g x, outputs_bits code x)
