-- The register has shifted past the thirty-two outputs that the entry before i is among, and the first i outputs stand over the front
-- of the slice.
use Prim.Native.Nat.{◌+◌, ◌*◌, ◌/◌}
use mathlib.Core.Path.{◌≡◌}
use Rattle.base.specs.Places.{tabulate, written}
use Rattle.scrambler.specs.Scrambling.{output}
use Rattle.scrambler.specs.private.Scrambling.{nexts}
use Rattle.scrambler.proofs.tetra_scramb_get_bits.Given as goal

abbrev pub invariant-loop-i : goal.invariant-loop-i
invariant-loop-i l =
    (l.lfsr.bits ≡ nexts l.lfsr_init ((l.i + 31) / 32 * 32)) × (l.out ≡ written (tabulate (output l.lfsr_init) l.i) l.initial.out)
