-- Puncturing and depuncturing: the entries come back, and nothing but the kept places is written.
-- Assumes nothing.
use mathlib.Core.Path.{◌≡◌}
use mathlib.Core.List.{List}
use Prim.Native.Nat.{ℕ, ◌≤◌}
use native.Mathlib.Omega.{arith}
use lib.ListN.{length, take}
use Rattle.base.specs.private.Places.{Within}
use Rattle.base.proofs.Moves.{gather_scatter}
use Rattle.puncturing.specs.Puncturing.{kept_place, needed, punctured, depunctured}
use Rattle.puncturing.proofs.Modes.{kept_apart, kept_within}

module _ (mode n : ℕ) (src dst : List ℕ) (h : mode ≤ 6) (room : needed mode n ≤ length dst) where
  inside : Within (kept_place mode) n (length dst)
  inside i l = omega (arith, kept_within mode h n i l)

  -- puncturing what was depunctured gives the entries back
  pub entries_back : n ≤ length src → punctured mode n (depunctured mode n src dst) ≡ take n src
  entries_back = gather_scatter (kept_place mode) n src dst (kept_apart mode h n) inside
