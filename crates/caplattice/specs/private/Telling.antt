-- The number of what was found, as it is said first of an entry's answer.
-- Assumes nothing.
use Rattle.std.specs.Prelude.{ℕ}
use Rattle.caplattice.specs.declared.answer.Finding.{Finding}
use Rattle.caplattice.specs.declared.answer.Finding.TheVariants as findings

abbrev pub finding_number : Finding → ℕ
finding_number findings.Done = 0
finding_number findings.Good = 1
finding_number findings.Bad = 2
finding_number findings.Clean = 3
finding_number findings.Mended = 4
finding_number findings.Beyond = 5
finding_number findings.Matched = 6
finding_number findings.Differs = 7
