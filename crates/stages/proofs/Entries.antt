-- What an entry answers and leaves, from its refusal; and what an answer says of that refusal.
-- Assumes nothing.
use mathlib.Core.Path.{◌≡◌, refl, sym, ap, ◌∙◌}
use mathlib.Core.Bool.{Bool, true, false}
use mathlib.Core.List.{List}
use Prim.Native.Nat.{ℕ}
use lib.ListN.{length}
use Rattle.std.specs.Prelude.{Result, Ok, Err}
use Rattle.base.specs.declared.Counts.{Counts}
use Rattle.base.specs.declared.Received.{Received}
use Rattle.base.specs.declared.Refusal.{Refusal}
use Rattle.base.specs.Refusal.{Owed, accepted, unless, checked, reception}
use Rattle.base.specs.Places.{written}
use Rattle.viterbi.specs.Decoding.{cleared}
use Rattle.stages.specs.Entries.{SendEntry, ReceiveEntry}

-- ---- Good and Bad are given only where nothing was refused, and carry what was counted
same_counts : (g h : Bool) (c d : Counts) → checked g c ≡ checked h d → c ≡ d
same_counts true true c d e = cc
same_counts false false c d e = cc
same_counts true false c d e = absurd cc
same_counts false true c d e = absurd cc

received_accepted : (refusal : Owed) (g h : Bool) (c d : Counts) → Ok (checked g c) ≡ reception refusal h d → (refusal ≡ accepted) × (c ≡ d)
received_accepted (Ok tt) g h c d e = let same : checked g c ≡ checked h d = cc in (refl, same_counts g h c d same)
received_accepted (Err why) g h c d e = absurd cc

-- ---- sending
module _ {refusal : ℕ → Owed} {symbols before : List ℕ} where
  pub sends_done : {after : List ℕ} → refusal (length before) ≡ accepted → after ≡ written symbols before → SendEntry refusal symbols before accepted after
  sends_done none w = record { answered = rw none; target = rw none w }

  pub done_sent : {after : List ℕ} → SendEntry refusal symbols before accepted after → (refusal (length before) ≡ accepted) × (after ≡ written symbols before)
  done_sent s =
      let none = sym s.answered in
      (none, s.target ∙ ap (λ (r : Owed). unless r (written symbols before) before) none)

-- ---- receiving
module _ (good : Bool) (counts : Counts) {refusal : ℕ → ℕ → Owed} {steps : ℕ} {bits before trellis : List ℕ} where
  module _ {answer : Received} {after trellis' : List ℕ} where
    pub receives_done : refusal (length before) (length trellis) ≡ accepted → (answer ≡ checked good counts) × (after ≡ written bits before) × (trellis' ≡ cleared steps trellis)
        → ReceiveEntry refusal (λ t s. reception (refusal t s) good counts) bits steps before trellis (Ok answer) after trellis'
    receives_done none f = record { answered = rw none (ap Ok f.0); target = rw none f.1; clears = rw none f.2 }

  module _ {answer : Result Received Refusal} {after trellis' : List ℕ} where
    pub received_done : ReceiveEntry refusal (λ t s. reception (refusal t s) good counts) bits steps before trellis answer after trellis' → refusal (length before) (length trellis) ≡ accepted
        → (answer ≡ Ok (checked good counts)) × (after ≡ written bits before)
    received_done r none = (
      r.answered ∙ ap (λ (r : Owed). reception r good counts) none,
      r.target ∙ ap (λ (r : Owed). unless r (written bits before) before) none,
    )

  -- Good and Bad are given only where nothing was refused, with what was counted
  pub unrefused : {after trellis' : List ℕ} (g : Bool) (c : Counts)
      → ReceiveEntry refusal (λ t s. reception (refusal t s) good counts) bits steps before trellis (Ok (checked g c)) after trellis'
      → (refusal (length before) (length trellis) ≡ accepted) × (c ≡ counts) × (after ≡ written bits before)
  unrefused g c r =
      let a = received_accepted (refusal (length before) (length trellis)) g good c counts r.answered in
      (a.0, a.1, (received_done r a.0).1)
