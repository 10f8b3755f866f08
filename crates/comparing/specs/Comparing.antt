-- A mother word held against a depunctured one, up to the shorter length; 0xff in the depunctured one is skipped.
-- Assumes nothing.
use Rattle.std.specs.Prelude.{List, [], ◌∷◌, ℕ, suc, eqb, Option, Some, None}
-- `pick test a b`: a where the test holds, and otherwise b
pub use Rattle.std.specs.Prelude.{cond as pick}
use Rattle.base.specs.Bits.{ERASED}

-- how many entries matched, or None where some entry differs
abbrev pub one_more : Option ℕ → Option ℕ
one_more (Some n) = Some (suc n)
one_more None = None

unfoldable pub compare : List ℕ → List ℕ → Option ℕ
compare [] ds = Some 0
compare (m ∷ ms) [] = Some 0
compare (m ∷ ms) (d ∷ ds) = pick (eqb d ERASED) (compare ms ds) (pick (eqb d m) (one_more (compare ms ds)) None)
