-- What an exported function owes: some answer of its entry keeps the promise that the entry makes, and the call tells that answer.
-- An entry's promise leaves it one answer, so what is told is fixed too: proofs/Laws.antt.
-- Assumes nothing.
use Rattle.std.specs.Prelude.{◌≡◌, List, ℕ}

-- a call that returns r and leaves the caller's answer so tells this
pub record Tells (told : ℕ × List ℕ) (r : ℕ) (after : List ℕ) : Type 0 where
  pub number : r ≡ told.0
  pub answer : after ≡ told.1

pub record Answers {A : Type 0} (promise tells : A → Type 0) : Type 0 where
  pub own : A
  pub kept : promise own
  pub told : tells own
