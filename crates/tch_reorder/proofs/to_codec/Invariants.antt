-- Before each turn the channel order as far as position j is at its places in the target.
use mathlib.Core.Path.{◌≡◌}
use Prim.Native.Nat.{◌*◌}
use Rattle.base.specs.Places.{scatter}
use Rattle.tch_reorder.specs.Order.{codec_place}
use Rattle.tch_reorder.proofs.to_codec.Given as goal

abbrev pub invariant-loop-j : goal.invariant-loop-j
invariant-loop-j l = l.codec ≡ scatter codec_place (2 * l.j) l.channel l.initial.codec
