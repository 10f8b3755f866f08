-- Before each turn the register and the data still to come leave what the whole leaves.
use Prim.Native.Nat.{◌≤◌, ◌-◌}
use mathlib.Core.Path.{◌≡◌}
use mathlib.Core.List.{[], ◌∷◌}
use lib.ListN.{drop}
use Rattle.speech_crc.specs.Check.{added, divided, data_bits, dividend, remainder}
use Rattle.speech_crc.proofs.divide.Given as goal

abbrev pub invariant-loop-i : goal.invariant-loop-i
invariant-loop-i l =
    (l.i ≤ 60)
    × (divided l.i (added 1 (l.sixth ∷ l.fifth ∷ l.fourth ∷ l.third ∷ l.second ∷ l.first ∷ l.constant ∷ []) (drop (60 - l.i) (dividend (data_bits l.class2)))) ≡ remainder (data_bits l.class2))
