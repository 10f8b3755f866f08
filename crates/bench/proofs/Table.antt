-- The bench values hold.
-- Assumes nothing.
use mathlib.Core.List.{[], ◌∷◌}
use mathlib.Core.Path.{◌≡◌, refl}
use Prim.Native.Nat.{ℕ, zero, suc, ◌+◌, ◌-◌, ◌*◌, ◌/◌, ◌≤◌}
use lib.ListN.{get_or}
use native.Mathlib.Omega.{arith}
use Rattle.base.specs.Places.{tabulate}
use Rattle.trellis.specs.Nearest.{candidates, nearest}
use Rattle.crc16.specs.Crc.{step, register}
use Rattle.scrambler.specs.Scrambling.{new_bit, next, output, start_value}
use Rattle.scrambler.proofs.Outputs.{output_zero}
use Rattle.convenc.specs.Generators.{tapped}
use Rattle.puncturing.specs.Puncturing.{position, position_of}
use Rattle.rm3014.specs.Code.{table, parity, code_word, columns, syndrome, place_of}
use Rattle.speech_crc.specs.Check.{divided, speech_check}
use Rattle.bench.specs.Values.{BenchValues}

-- of the positions of the pattern 1 2 5 of 8, only the sixty-sixth lies from 173 to 176, and it is 173
from_173 : (i : ℕ) → 173 ≤ position_of 8 (1 ∷ 2 ∷ 5 ∷ []) i → position_of 8 (1 ∷ 2 ∷ 5 ∷ []) i ≤ 176
    → (position_of 8 (1 ∷ 2 ∷ 5 ∷ []) i ≡ 173) × (i - 1 ≡ 65)
from_173 i h k = go (i - 3 * ((i - 1) / 3) - 1) refl h k
  where
    go : (r : ℕ) → i - 3 * ((i - 1) / 3) - 1 ≡ r → 173 ≤ 8 * ((i - 1) / 3) + get_or (1 ∷ 2 ∷ 5 ∷ []) r 0 → 8 * ((i - 1) / 3) + get_or (1 ∷ 2 ∷ 5 ∷ []) r 0 ≤ 176
        → (8 * ((i - 1) / 3) + get_or (1 ∷ 2 ∷ 5 ∷ []) r 0 ≡ 173) × (i - 1 ≡ 65)
    go zero e h k = absurd (omega arith)
    go (suc zero) e h k = absurd (omega arith)
    go (suc (suc zero)) e h k = (omega arith, omega arith)
    go (suc (suc (suc r))) e h k = absurd (omega arith)

pub bench : BenchValues
unfolding tabulate candidates nearest step register new_bit next output start_value tapped position table parity code_word columns syndrome place_of divided speech_check
bench =
    record {
      register_none = refl;
      register_zero = refl;
      register_one = refl;
      scrambling_three = refl;
      scrambling_zero = output_zero;
      start_ones = refl;
      country_most = refl;
      country_over = refl;
      control_one = refl;
      speech_one = refl;
      kept_after_gap = refl;
      bit_44_kept = refl;
      bit_44_alone = λ j h k l. (from_173 (j + 0) k l).0;
      bit_44_skipped = λ j h e. skipped j h (from_173 (j + (j - 1) / 65) (omega (arith, e)) (omega (arith, e))).1;
      access_word = refl;
      access_beyond = refl;
      speech_check_first = refl;
      six_steps = refl;
      six_count = refl;
      six_ties = refl;
    }
  where
    skipped : (j : ℕ) → 1 ≤ j → j + (j - 1) / 65 - 1 ≡ 65 → ⊥
    skipped j h e = omega arith
