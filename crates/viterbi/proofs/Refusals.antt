-- What no refusal says.
-- Assumes nothing.
use mathlib.Core.Path.{◌≡◌}
use mathlib.Core.List.{List}
use Prim.Native.Nat.{ℕ, zero, suc, ◌*◌, ◌≤◌, ◌<◌}
use native.Mathlib.Omega.{arith}
use borrow.Author.Tests.{ltb-false}
use lib.Dec.{ltb}
use lib.ListN.{length}
use Rattle.base.specs.Refusal.{accepted}
use Rattle.base.proofs.Refusals.{passed}
use Rattle.viterbi.specs.Decoding.{decode_refusal}

pub accepts : (n src trellis dst : ℕ) (code : List (List ℕ)) → decode_refusal code n src trellis dst ≡ accepted
    → (n ≤ 864) × (length code * n ≤ src) × (n ≤ trellis) × (n ≤ dst)
accepts n src trellis dst code e =
    let a = passed (ltb 864 n) _ _ e in
    let b = passed (ltb src (length code * n)) _ _ a.1 in
    let c = passed (ltb trellis n) _ _ b.1 in
    let d = passed (ltb dst n) _ _ c.1 in
    (ltb-false 864 n a.0, ltb-false src (length code * n) b.0, ltb-false trellis n c.0, ltb-false dst n d.0)

-- the symbols of so many steps are few
pub symbols_le : (k n : ℕ) → k < 5 → n ≤ 864 → k * n ≤ 3456
symbols_le zero n h l = omega arith
symbols_le (suc zero) n h l = omega arith
symbols_le (suc (suc zero)) n h l = omega arith
symbols_le (suc (suc (suc zero))) n h l = omega arith
symbols_le (suc (suc (suc (suc zero)))) n h l = omega arith
symbols_le (suc (suc (suc (suc (suc k))))) n h l = absurd (omega arith)
