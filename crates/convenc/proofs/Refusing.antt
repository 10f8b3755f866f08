-- What a refusal says: the tests that led to it, and what holds where nothing is refused.
-- Assumes nothing.
use mathlib.Core.Path.{◌≡◌, refl, subst}
use mathlib.Core.List.{List, [], ◌∷◌}
use mathlib.Core.Bool.{true, not}
use Prim.Native.Nat.{ℕ, ◌*◌, ◌≤◌, ◌<◌}
use native.Mathlib.Nat.{mul-zero}
use native.Mathlib.Omega.{arith}
use lib.Dec.{ltb}
use lib.ListN.{length}
use lib.Seq.{take-length}
use borrow.Author.Tests.{ltb-false, not-false, le-ltb}
use Rattle.base.specs.Bits.{Bits, bits_only}
use Rattle.base.specs.declared.Refusal.TheVariants as refusals
use Rattle.base.specs.Refusal.{LIMIT, ROOM, BIT, accepted, when}
use Rattle.base.proofs.BitLaws.{bits_only_bits}
use Rattle.base.proofs.Refusals.{passed}
use Rattle.convenc.specs.Generators.{encode_refusal}

-- ---- an encoder's refusal
pub record Accepted (rate : ℕ) (d src : List ℕ) (dst : ℕ) : Type 0 where
  pub limit : length src ≤ 4096
  pub room : rate * length src ≤ dst
  pub input : Bits src
  pub delayed : 0 < length src → bits_only 4 d ≡ true

pub accepts : (rate : ℕ) (d src : List ℕ) (dst : ℕ) → encode_refusal rate d src dst ≡ accepted → Accepted rate d src dst
accepts rate d [] dst e = record { limit = omega arith; room = omega (arith, mul-zero rate); input = tt; delayed = λ h. absurd (omega arith) }
accepts rate d (b ∷ src) dst e =
    let limit = passed (ltb 4096 (length (b ∷ src))) refusals.Limit _ e in
    let room = passed (ltb dst (rate * length (b ∷ src))) refusals.Room _ limit.1 in
    let input = passed (not (bits_only (length (b ∷ src)) (b ∷ src))) refusals.Bit _ room.1 in
    let delayed = passed (not (bits_only 4 d)) refusals.Bit _ input.1 in
    record {
      limit = ltb-false 4096 (length (b ∷ src)) limit.0;
      room = ltb-false dst (rate * length (b ∷ src)) room.0;
      input = subst Bits (take-length (b ∷ src)) (bits_only_bits (length (b ∷ src)) (b ∷ src) (not-false _ input.0));
      delayed = λ h. not-false _ delayed.0;
    }

-- an input that is not empty goes through the tests
pub refusal_some : (rate : ℕ) (d src : List ℕ) (dst : ℕ) → (length src ≡ 0 → ⊥)
    → encode_refusal rate d src dst
    ≡ when (ltb 4096 (length src)) LIMIT
    (when (ltb dst (rate * length src)) ROOM (when (not (bits_only (length src) src)) BIT (when (not (bits_only 4 d)) BIT accepted)))
refusal_some rate d [] dst h = absurd (h refl)
refusal_some rate d (b ∷ src) dst h = refl

pub refuses_none : (rate : ℕ) (d src : List ℕ) (dst : ℕ) → (length src ≡ 0 → ⊥) → length src ≤ 4096 → rate * length src ≤ dst
    → bits_only (length src) src ≡ true → bits_only 4 d ≡ true → accepted ≡ encode_refusal rate d src dst
refuses_none rate d src dst some limit room input delayed =
    rw (refusal_some rate d src dst some, le-ltb 4096 (length src) limit, le-ltb dst (rate * length src) room, input, delayed)
