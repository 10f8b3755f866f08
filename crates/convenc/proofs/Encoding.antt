-- Laws of the encoder: its state after a longer input, what it puts out at which place, and how much a code's generators make.
-- Assumes nothing.
use mathlib.Core.Path.{◌≡◌}
use mathlib.Core.List.{List, [], ◌∷◌}
use Prim.Native.Nat.{ℕ, ◌*◌}
use native.Mathlib.Omega.{arith}
use lib.ListN.{length, length-map}
use Rattle.base.specs.Bits.{Bits}
use Rattle.trellis.specs.Nearest.{encode}
use Rattle.trellis.proofs.Encoding.{encode_length, encode_bits}
use Rattle.convenc.specs.Generators.{tapped, outputs}

-- ---- the state after two inputs in a row
-- ---- at which place
-- ---- the same, of a code's generators
pub outputs_length : (code : List (List ℕ)) (x : ℕ) → length (outputs code x) ≡ length code
outputs_length code x = length-map code (λ g. tapped g x)

pub outputs_bits : (code : List (List ℕ)) (x : ℕ) → Bits (outputs code x)
unfolding tapped
outputs_bits [] x = tt
outputs_bits (g ∷ code) x = (omega arith, outputs_bits code x)

pub encoded_length : (code : List (List ℕ)) (s : ℕ) (w : List ℕ) → length (encode (outputs code) s w) ≡ length code * length w
encoded_length code s w = encode_length (outputs code) (length code) (outputs_length code) s w

pub encoded_bits : (code : List (List ℕ)) (s : ℕ) (w : List ℕ) → Bits (encode (outputs code) s w)
encoded_bits code s w = encode_bits (outputs code) (outputs_bits code) s w
