-- Laws of the last lines.
-- Assumes nothing.
use mathlib.Core.Path.{◌≡◌}
use mathlib.Core.List.{List, [], ◌∷◌}
use Prim.Native.Nat.{ℕ, ◌+◌, ◌≤◌, ◌<◌}
use native.Mathlib.Omega.{arith}
use lib.ListN.{length, get_or}
use Rattle.lines.specs.Text.{ascii}
use Rattle.lines.specs.Lines.{line, end_line}
use Rattle.lines.specs.private.Placing.{Put}
use Rattle.lines.proofs.Placing.{put_then}
use Rattle.streaming.specs.Runner.{closing}

-- nothing is left
pub closing_none : (rest : List ℕ) (count : ℕ) {at next : ℕ} {old new : List ℕ} → length rest ≡ 0 → Put (end_line count) at old new next → Put (closing rest count) at old new next
unfolding closing
closing_none [] count z p = p
closing_none (kind ∷ body) count z p = absurd (omega arith)

-- a record has begun
pub closing_cut :
    (rest : List ℕ) (count : ℕ) {at m next : ℕ} {old mid new : List ℕ} → 0 < length rest → at ≤ length old
    → Put (line (count + 1) (get_or rest 0 0) (ascii "short")) at old mid m → Put (end_line count) m mid new next → Put (closing rest count) at old new next
unfolding closing
closing_cut [] count z h p q = absurd (omega arith)
closing_cut (kind ∷ body) count z h p q = put_then h p q
