-- What the rows of the table have in common: all that the chains' arguments know of a kind.
-- Assumes nothing.
use mathlib.Core.Path.{◌≡◌, refl}
use mathlib.Core.Bool.{Bool, true, false}
use Prim.Native.Nat.{ℕ, zero, suc, ◌+◌, ◌*◌, ◌≤◌, ◌<◌}
use native.Mathlib.Omega.{arith}
use lib.Dec.{ltb}
use borrow.Author.Tests.{ltb-true}
use Rattle.base.specs.Bits.{both}
use Rattle.puncturing.specs.Puncturing.{position, needed}
use Rattle.interleaver.specs.Interleaving.{shared}
use Rattle.errorcontrol_cp.specs.Kinds.{is_kind, data_bits, word_bits, air_symbols, interleaver_step}

pub record Row (kind : ℕ) : Type 0 where
  -- data, 16 check bits and 4 zeros
  pub word : word_bits kind ≡ data_bits kind + 20
  -- mode 2_3 keeps 3 of 8 mother symbols, and a word's bit has 4
  pub air : 2 * air_symbols kind ≡ 3 * word_bits kind
  pub reach : needed 0 (air_symbols kind) ≤ 4 * word_bits kind
  pub alone : shared (air_symbols kind) (interleaver_step kind) ≡ false
  pub most : data_bits kind ≤ 268
  pub step : interleaver_step kind ≤ 65535

both_split : (a b : Bool) → both a b ≡ true → (a ≡ true) × (b ≡ true)
both_split true b e = (refl, e)
both_split false b e = (e, cc)

pub kind_from : (kind : ℕ) → is_kind kind ≡ true → (0 < kind) × (kind < 5)
unfolding is_kind
kind_from kind e =
    let p = both_split (ltb 0 kind) (ltb kind 5) e in
    (ltb-true 0 kind p.0, ltb-true kind 5 p.1)

pub row : (kind : ℕ) → is_kind kind ≡ true → Row kind
unfolding data_bits word_bits air_symbols interleaver_step shared needed position
row zero e = absurd (omega (arith, kind_from 0 e))
row (suc zero) e = record { word = refl; air = refl; reach = omega arith; alone = refl; most = omega arith; step = omega arith }
row (suc (suc zero)) e = record { word = refl; air = refl; reach = omega arith; alone = refl; most = omega arith; step = omega arith }
row (suc (suc (suc zero))) e = record { word = refl; air = refl; reach = omega arith; alone = refl; most = omega arith; step = omega arith }
row (suc (suc (suc (suc zero)))) e = record { word = refl; air = refl; reach = omega arith; alone = refl; most = omega arith; step = omega arith }
row (suc (suc (suc (suc (suc kind))))) e = absurd (omega (arith, kind_from (suc (suc (suc (suc (suc kind))))) e))
