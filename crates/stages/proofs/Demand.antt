-- Demand 3 for a chain's entry, from how its distance passes through the stages.
-- Assumes nothing.
use mathlib.Core.Path.{◌≡◌, ap, ◌∙◌}
use mathlib.Core.Bool.{Bool}
use mathlib.Core.List.{List}
use Prim.Native.Nat.{ℕ}
use lib.ListN.{length}
use Rattle.std.specs.Prelude.{Result}
use Rattle.base.specs.declared.Counts.{Counts}
use Rattle.base.specs.declared.Received.{Received}
use Rattle.base.specs.declared.Refusal.{Refusal}
use Rattle.base.specs.Refusal.{Owed, accepted, reception}
use Rattle.base.specs.Places.{written}
use Rattle.trellis.specs.Nearest.{nearest}
use Rattle.air.specs.Channel.{Channel}
use Rattle.air.specs.Demand.{Unrefused, HeardRight}
use Rattle.air.proofs.Channel.{Weighs, Lawful, Decoder, heard_right}
use Rattle.air.proofs.Hard.{Any}
use Rattle.stages.specs.Entries.{ReceiveEntry}
use Rattle.stages.proofs.Entries.{unrefused}

-- an entry by what it refuses, finds good, counts and decodes, of the air that it is given
abbrev pub Entry : (List ℕ → ℕ → ℕ → Owed) → (List ℕ → Bool) → (List ℕ → Counts) → (List ℕ → List ℕ) → ℕ
    → List ℕ → List ℕ → List ℕ → Result Received Refusal → List ℕ → List ℕ → Type 0
Entry refusal good counts bits steps air = ReceiveEntry (refusal air) (λ t s. reception (refusal air t s) (good air) (counts air)) (bits air) steps

module _ (refusal : List ℕ → ℕ → ℕ → Owed) (good : List ℕ → Bool) (counts : List ℕ → Counts) (bits : List ℕ → List ℕ) (steps : ℕ) where
  module _ {air : List ℕ} {count : ℕ} {target target' : List ℕ} (u : Unrefused (Entry refusal good counts bits steps) air count target target') where
    said : (refusal air (length target) (length u.trellis) ≡ accepted) × (u.counts ≡ counts air) × (target' ≡ written (bits air) target)
    said = unrefused (good air) (counts air) u.good u.counts u.call

  -- where the entry's distance is the channel's, and its bits and its count are those of the nearest word
  pub entry_right : {c : Channel (List ℕ) ℕ} {holds : List ℕ → List ℕ → List ℕ} (far : List ℕ → List ℕ → ℕ) → Lawful c Any
      → ((air : List ℕ) (target trellis : ℕ) → refusal air target trellis ≡ accepted → Weighs c air (far air))
      → ((air : List ℕ) → bits air ≡ holds air (nearest (far air) c.bits))
      → ((air : List ℕ) → (counts air).disagreements ≡ far air (nearest (far air) c.bits))
      → (air : List ℕ) (count : ℕ) (target target' : List ℕ) → Unrefused (Entry refusal good counts bits steps) air count target target'
      → HeardRight c (Unrefused (Entry refusal good counts bits steps)) holds air count target target'
  entry_right {c} {holds} far lawful weighs writes counted = heard_right decoder
    where
      decoder : Decoder c Any (Unrefused (Entry refusal good counts bits steps)) holds far
      decoder =
          record {
            lawful = lawful;
            fits = λ air count target target' u j h. tt;
            weighs = λ air count target target' u. weighs air (length target) (length u.trellis) (said u).0;
            writes = λ air count target target' u. (said u).2 ∙ ap (λ (b : List ℕ). written b target) (writes air);
            counts = λ air count target target' u. u.counted ∙ ap (λ (n : Counts). n.disagreements) (said u).1 ∙ counted air;
          }
