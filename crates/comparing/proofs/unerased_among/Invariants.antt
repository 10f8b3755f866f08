-- What was found and what the rest gives are together what the whole gives.
use mathlib.Core.Path.{◌≡◌}
use Prim.Native.Nat.{◌+◌}
use Rattle.comparing.specs.private.Gathering.{unerased}
use Rattle.comparing.proofs.unerased_among.Given as goal

abbrev pub invariant-loop-part : goal.invariant-loop-part
invariant-loop-part l =
    (l.part-iterator.size ≡ 240) × (l.found + unerased l.part-iterator.rest.now ≡ unerased l.s)
