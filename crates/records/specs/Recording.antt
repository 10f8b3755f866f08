-- What stands at a place of a recording. A record is one kind byte and a body whose length the kind says.
-- Assumes nothing.
-- `pick test a b`: a where the test holds, and otherwise b
pub use Rattle.std.specs.Prelude.{cond as pick}
use Rattle.std.specs.Prelude.{List, ℕ, ◌+◌, ltb, leb, eqb, length, get_or, take, drop}
use Rattle.records.specs.Kinds.{symbols_of, body_length}
use Rattle.records.specs.declared.Step.{Step}
use Rattle.records.specs.declared.Item.{Item}
use Rattle.records.specs.declared.Item.TheVariants.{Whole, Unknown, Cut, End}

-- where the record of the kind that begins at the place ends
abbrev pub past : ℕ → ℕ → ℕ
past kind place = place + 1 + body_length kind

-- what a reader hands out, and where it then stands: at the end of the bytes the end; a kind that is not known; a record that is cut, if its
-- body is not all there; and otherwise a whole record, which alone it moves past
unfoldable pub step_at : List ℕ → ℕ → Step
step_at bytes place =
    pick (leb (length bytes) place) (record { item = End; at = place })
    (pick (eqb (symbols_of (get_or bytes place 0)) 0) (record { item = Unknown (get_or bytes place 0); at = place })
    (pick (ltb (length bytes) (past (get_or bytes place 0) place)) (record { item = Cut (get_or bytes place 0); at = place })
    (record { item = Whole (get_or bytes place 0) place; at = past (get_or bytes place 0) place })))

-- what stands at a place
abbrev pub item_at : List ℕ → ℕ → Item
item_at bytes place = (step_at bytes place).item

-- the body of the record of the kind that begins at the place
abbrev pub body_at : List ℕ → ℕ → ℕ → List ℕ
body_at bytes kind place = take (body_length kind) (drop (place + 1) bytes)
