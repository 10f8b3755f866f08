-- The start value's answers.
-- Assumes nothing.
use mathlib.Core.Path.{◌≡◌, refl, ap}
use Prim.Native.Nat.{ℕ, zero, suc, ◌+◌, ◌*◌, ◌^◌, ◌≤◌}
use borrow.Author.Tests.{le-ltb}
use Rattle.std.specs.Prelude.{Ok}
use Rattle.base.specs.Refusal.{valued}
use Rattle.scrambler.specs.Scrambling.{field_refusal, start_value}

-- fields that fit are answered by the start value
pub start_fits : (mcc mnc colour value : ℕ) → mcc ≤ 1023 → mnc ≤ 16383 → colour ≤ 63 → value ≡ start_value mcc mnc colour
    → Ok value ≡ valued (field_refusal mcc mnc colour) (start_value mcc mnc colour)
start_fits mcc mnc colour value p q r e = simp (le-ltb 1023 mcc p, le-ltb 16383 mnc q, le-ltb 63 colour r) (ap Ok e)

pub start_none : (mcc mnc colour : ℕ) → colour ≡ 0 → 0 ≡ start_value mcc mnc colour
unfolding start_value
start_none mcc mnc colour e = rw e

pub start_colour : (mcc mnc colour : ℕ) → (colour ≡ 0 → ⊥) → 4 * (colour + 64 * mnc + 2 ^ 20 * mcc) + 3 ≡ start_value mcc mnc colour
unfolding start_value
start_colour mcc mnc zero h = absurd (h refl)
start_colour mcc mnc (suc c) h = refl
