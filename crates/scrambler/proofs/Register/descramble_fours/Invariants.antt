-- The first q fours have their outputs taken off.
use Prim.Native.Nat.{◌*◌}
use Rattle.scrambler.specs.private.Fours.{Begun}
use Rattle.scrambler.proofs.Register.descramble_fours.Given as goal

abbrev pub invariant-loop-q : goal.invariant-loop-q
invariant-loop-q l = Begun l.fn.self.bits (4 * l.q) l.lfsr.bits l.initial.block l.block
