-- The whole fours are done at the start. Then the symbols before i have their outputs taken off.
use Prim.Native.Nat.{ℕ}
use mathlib.Core.List.{List}
use Rattle.scrambler.specs.private.Fours.{Begun}
use Rattle.scrambler.proofs.tetra_descramb_bits.Given as goal

abbrev pub invariant-loop-i : goal.invariant-loop-i
invariant-loop-i l = (b : List ℕ) → Begun l.lfsr_init l.initial.i l.initial.lfsr.bits b l.initial.block → Begun l.lfsr_init l.i l.lfsr.bits b l.block
