-- Bits moved are bits.
-- Assumes nothing.
use mathlib.Core.List.{List, [], ◌∷◌}
use Prim.Native.Nat.{ℕ, zero, suc, ◌<◌}
use lib.ListN.{get_or, set}
use Rattle.base.specs.Bits.{Bits}
use Rattle.base.specs.Places.{gather, scatter}
use Rattle.base.proofs.BitLaws.{bits_at, bits_tabulate}

pub gather_bits : (place : ℕ → ℕ) (n : ℕ) (src : List ℕ) → Bits src → Bits (gather place n src)
gather_bits place n src b = bits_tabulate (λ j. get_or src (place j) 0) n (λ i h. bits_at src b (place i))

set_bits : (l : List ℕ) (i v : ℕ) → Bits l → v < 2 → Bits (set l i v)
set_bits [] i v b h = tt
set_bits (x ∷ l) zero v b h = (h, b.1)
set_bits (x ∷ l) (suc i) v b h = (b.0, set_bits l i v b.1 h)

pub scatter_bits : (place : ℕ → ℕ) (n : ℕ) (src dst : List ℕ) → Bits src → Bits dst → Bits (scatter place n src dst)
unfolding scatter
scatter_bits place zero src dst b c = c
scatter_bits place (suc n) src dst b c =
    set_bits (scatter place n src dst) (place n) (get_or src n 0) (scatter_bits place n src dst b c) (bits_at src b n)
