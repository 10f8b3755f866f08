-- What an entry answers and leaves, from what it owes; what no refusal says of each test; and that none has the retired number.
-- Assumes nothing.
use mathlib.Core.Path.{◌≡◌, refl}
use mathlib.Core.Bool.{Bool, true, false}
use native.Mathlib.Omega.{arith}
use Rattle.std.specs.Prelude.{Ok, Err}
use Rattle.base.specs.declared.Refusal.{Refusal}
use Rattle.base.specs.Refusal.{Owed, number, RETIRED, Current, accepted, when, unless}

-- an entry that does not refuse is done, and leaves what it made
pub done : {A : Type 0} (refusal : Owed) (made kept left : A) → refusal ≡ accepted → left ≡ made → (accepted ≡ refusal) × (left ≡ unless refusal made kept)
done refusal made kept left e was = rw e (refl, was)

-- where nothing is refused the first test failed, and the later ones refuse nothing
pub passed : (test : Bool) (why : Refusal) (later : Owed) → when test (Err why) later ≡ accepted → (test ≡ false) × (later ≡ accepted)
passed true why later e = absurd cc
passed false why later e = (refl, e)

-- ---- the retired number
number_current : (refusal : Refusal) → number refusal ≡ RETIRED → ⊥
number_current refusal e = grind arith

-- whatever an entry owes, its number is in use
pub in_use : (refusal : Owed) → Current refusal
in_use (Ok done) e = omega arith
in_use (Err refusal) e = number_current refusal e
