-- The matrix interleaver's loops: a line of the source at a time.
-- Assumes nothing.
use Rattle.std.specs.Prelude.{List, ℕ, ◌+◌, ◌*◌, ◌≤◌, drop}
use Rattle.base.specs.Places.{scatter}

-- what the loops ask: small numbers, and a source and a target that hold the whole matrix
pub record MatrixFits (lines columns src dst : ℕ) : Type 0 where
  pub few_lines : lines ≤ 4096
  pub few_columns : columns ≤ 4096
  pub count : lines * columns ≤ 4096
  pub long : lines * columns ≤ src
  pub room : lines * columns ≤ dst

-- entry i of a line goes to i lines + line; the rest of the target stays
abbrev pub line_moved : ℕ → ℕ → ℕ → List ℕ → List ℕ → List ℕ
line_moved lines columns line src dst = scatter (λ i. i * lines + line) columns (drop (line * columns) src) dst
