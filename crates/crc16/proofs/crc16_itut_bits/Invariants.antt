-- Before each turn the register is that of the entries before this one.
use Prim.Native.Nat.{◌≤◌}
use mathlib.Core.Path.{◌≡◌}
use lib.ListN.{length, take}
use Rattle.crc16.specs.Crc.{register}
use Rattle.crc16.proofs.crc16_itut_bits.Given as goal

abbrev pub invariant-loop-bit : goal.invariant-loop-bit
invariant-loop-bit l = (l.bit-index ≤ length l.bits) × (l.reg ≡ register l.crc (take l.bit-index l.bits))
