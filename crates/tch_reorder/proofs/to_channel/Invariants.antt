-- Before each turn the channel order stands in the target as far as position i.
use mathlib.Core.Path.{◌≡◌}
use Prim.Native.Nat.{◌*◌}
use Rattle.base.specs.Places.{written, gather}
use Rattle.tch_reorder.specs.Order.{codec_place}
use Rattle.tch_reorder.proofs.to_channel.Given as goal

abbrev pub invariant-loop-i : goal.invariant-loop-i
invariant-loop-i l = l.channel ≡ written (gather codec_place (2 * l.i) l.codec) l.initial.channel
