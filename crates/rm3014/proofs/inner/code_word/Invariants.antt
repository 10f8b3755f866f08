-- The code word so far, with what the masks not yet seen add for the data bits that are set, is the code word.
-- Assumes nothing.
use Prim.Native.Nat.{◌≤◌}
use mathlib.Core.Path.{◌≡◌}
use lib.Bits.{bit_xor}
use lib.ListN.{drop}
use Rattle.linear.specs.Linear.{image}
use Rattle.rm3014.specs.Code.{code_word}
use Rattle.rm3014.proofs.CodeLaws.{masks}
use Rattle.rm3014.proofs.inner.code_word.Given as goal

abbrev pub invariant-loop-i : goal.invariant-loop-i
invariant-loop-i l = (l.i ≤ 14) × (bit_xor l.word (image (drop l.i masks) l.input) ≡ code_word l.input)
