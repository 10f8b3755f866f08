-- What a read brought, the turn before the first read, and what becomes of a turn when its lines are written.
-- Assumes nothing.
use Rattle.std.specs.Prelude.{Bool, true, false, ℕ, min, ℤ, pos, negsuc, Option, Some, None, unwrap_or, is_none}
use Rattle.reading.specs.declared.Next.TheVariants.{Goes, Unwritten}
use Rattle.reading.specs.declared.Got.{Got}
use Rattle.reading.specs.declared.Turn.{Turn}

-- what a read brought, which is no more than there was room for, or that it failed
abbrev pub of_read : Option ℕ → ℕ → Got
of_read (Some n) room = record { bytes = Some (min n room) }
of_read None room = record { bytes = None }

-- what a read means by its answer: a negative one is a failure; any other says how many bytes came, which are no more than there was room for
abbrev pub meant : ℤ → ℕ → Got
meant (pos n) room = of_read (Some n) room
meant (negsuc n) room = of_read None room

-- how many bytes came, and none if the read failed
abbrev pub bytes_of : Got → ℕ
bytes_of got = unwrap_or got.bytes 0

abbrev pub has_failed : Got → Bool
has_failed got = is_none got.bytes

abbrev pub first : Turn
first = record { kept = 0; written = 0; count = 0; next = Goes }

-- the turn as it is, or, if its lines could not be written, the end
abbrev pub wrote : Bool → Turn → Turn
wrote true turn = turn
wrote false turn = record { kept = turn.kept; written = turn.written; count = turn.count; next = Unwritten }
