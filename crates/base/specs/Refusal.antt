-- Why an entry refuses, the numbers of the refusals, and what an entry leaves when it refuses.
-- An entry's own refusal is a chain of `when`, in this order: 8, 7, 6, 1, 5, 2, 3, 4.
-- Assumes nothing.
use Rattle.std.specs.Prelude.{◌≡◌, List, Bool, true, false, ℕ, ltb, Result, Ok, Err, ⊤}
-- `when test refusal later`: the refusal where the test holds, and otherwise what the later tests say
pub use Rattle.std.specs.Prelude.{cond as when}
use Rattle.base.specs.declared.Refusal.{Refusal}
use Rattle.base.specs.declared.Refusal.TheVariants as refusals
use Rattle.base.specs.declared.Counts.{Counts}
use Rattle.base.specs.declared.Received.{Received}
use Rattle.base.specs.declared.Received.TheVariants as received

-- what an entry owes that has no value of its own: nothing is refused, or why
abbrev pub Owed : Type 0
Owed = Result ⊤ Refusal

abbrev pub LIMIT : Owed
LIMIT = Err refusals.Limit

abbrev pub SHORT : Owed
SHORT = Err refusals.Short

abbrev pub ROOM : Owed
ROOM = Err refusals.Room

abbrev pub BIT : Owed
BIT = Err refusals.Bit

abbrev pub SHUFFLE : Owed
SHUFFLE = Err refusals.Shuffle

abbrev pub WORD : Owed
WORD = Err refusals.Word

abbrev pub FIELD : Owed
FIELD = Err refusals.Field

abbrev pub KIND : Owed
KIND = Err refusals.Kind

-- no refusal
abbrev pub accepted : Owed
accepted = Ok tt

-- ---- the numbers
abbrev pub number : Refusal → ℕ
number refusals.Limit = 1
number refusals.Short = 2
number refusals.Room = 3
number refusals.Bit = 4
number refusals.Shuffle = 5
number refusals.Word = 6
number refusals.Field = 7
number refusals.Kind = 8

-- a refusal as a number, and its own number
abbrev pub Numbers : Refusal → ℕ → Type 0
Numbers refusal n = n ≡ number refusal

-- 0 where nothing is refused
abbrev pub number_of : {A : Type 0} → Result A Refusal → ℕ
number_of (Ok value) = 0
number_of (Err refusal) = number refusal

-- 9 is retired. It was START, for a walk back that does not end in state 0, and every walk ends there. It may never be given to anything else:
-- a new refusal takes the next number from 10 on
abbrev pub RETIRED : ℕ
RETIRED = 9

-- what a call may owe: anything but the retired number
abbrev pub Current : Owed → Type 0
Current refusal = number_of refusal ≡ RETIRED → ⊥

-- ---- the answers
-- SHORT where the source holds fewer entries than it must, ROOM where the target does, and otherwise what the later tests say
abbrev pub sized : ℕ → ℕ → ℕ → ℕ → Owed → Owed
sized source least target room later = when (ltb source least) SHORT (when (ltb target room) ROOM later)

-- of two values the first where nothing is refused, the second where something is
abbrev pub unless : {A : Type 0} → Owed → A → A → A
unless (Ok done) made kept = made
unless (Err refusal) made kept = kept

-- what an entry with one target owes: its answer, and what it made in the target, or what was there before
abbrev pub Leaves : Owed → List ℕ → List ℕ → List ℕ → Owed → Type 0
Leaves refusal made before after answer = (answer ≡ refusal) × (after ≡ unless refusal made before)

-- the answer of an entry that has a value: the value where nothing is refused
abbrev pub valued : {A : Type 0} → Owed → A → Result A Refusal
valued (Ok done) value = Ok value
valued (Err refusal) value = Err refusal

-- the answer of a receive chain: whether the check agreed, and what was counted
abbrev pub checked : Bool → Counts → Received
checked true counts = received.Good counts
checked false counts = received.Bad counts

abbrev pub reception : Owed → Bool → Counts → Result Received Refusal
reception refusal good counts = valued refusal (checked good counts)
