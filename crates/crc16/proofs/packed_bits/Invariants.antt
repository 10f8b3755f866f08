-- The register so far is that of the bits before i.
use Prim.Native.Nat.{◌≤◌}
use mathlib.Core.Path.{◌≡◌}
use Rattle.base.specs.Places.{tabulate}
use Rattle.crc16.specs.Crc.{register, bit_of}
use Rattle.crc16.proofs.packed_bits.Given as goal

abbrev pub invariant-loop-i : goal.invariant-loop-i
invariant-loop-i l = (l.i ≤ l.number_bits) × (l.reg ≡ register l.crc (tabulate (bit_of l.input) l.i))
