-- Before each turn the sum's lowest bit is that of the entries before.
use Prim.Native.Nat.{◌+◌, ◌%◌}
use mathlib.Core.List.{foldr}
use mathlib.Core.Path.{◌≡◌}
use lib.ListN.{get_or}
use Rattle.base.specs.Places.{tabulate}
use Rattle.speech_crc.proofs.parity.Given as goal

abbrev pub invariant-loop-b : goal.invariant-loop-b
invariant-loop-b l = (l.sum % 2 ≡ foldr ◌+◌ 0 (tabulate (λ k. get_or l.s k 0 % 2) l.b-index) % 2)
