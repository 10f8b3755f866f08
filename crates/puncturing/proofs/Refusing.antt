-- What no refusal of puncturing and depuncturing says, and what is never refused.
-- Assumes nothing.
use mathlib.Core.Path.{◌≡◌, refl}
use mathlib.Core.Bool.{Bool, true, false}
use Prim.Native.Nat.{ℕ, ◌≤◌}
use lib.Dec.{ltb}
use borrow.Author.Tests.{ltb-false, le-ltb}
use Rattle.std.specs.Prelude.{Result, Ok}
use Rattle.base.specs.declared.Refusal.{Refusal}
use Rattle.base.specs.declared.Refusal.TheVariants as refusals
use Rattle.base.specs.Refusal.{LIMIT, ROOM, accepted, when, sized, valued}
use Rattle.base.proofs.Refusals.{passed}
use Rattle.puncturing.specs.Puncturing.{needed, puncture_refusal, depuncture_refusal}

-- a count that was answered is within the limit
pub counted : (n m value : ℕ) → ◌≡◌ {A = Result ℕ Refusal} (Ok value) (valued (when (ltb 4096 n) LIMIT accepted) m) → (n ≤ 4096) × (value ≡ m)
counted n m value e = go (ltb 4096 n) refl e
  where
    go : (b : Bool) → ltb 4096 n ≡ b → ◌≡◌ {A = Result ℕ Refusal} (Ok value) (valued (when b LIMIT accepted) m) → (n ≤ 4096) × (value ≡ m)
    go true t e = absurd cc
    go false t e = (ltb-false 4096 n t, cc)

-- source and target hold what they must
pub roomy : (source least target room : ℕ) → sized source least target room accepted ≡ accepted → (least ≤ source) × (room ≤ target)
roomy source least target room e =
    let p = passed (ltb source least) refusals.Short (when (ltb target room) ROOM accepted) e in
    let q = passed (ltb target room) refusals.Room accepted p.1 in
    (ltb-false source least p.0, ltb-false target room q.0)

-- ---- what a caller uses: enough of both is accepted
pub puncture_accepts : (mode n src dst : ℕ) → mode ≤ 6 → n ≤ 4096 → needed mode n ≤ src → n ≤ dst → puncture_refusal mode n src dst ≡ accepted
puncture_accepts mode n src dst kind limit source target =
    rw (le-ltb 6 mode kind, le-ltb 4096 n limit, le-ltb src (needed mode n) source, le-ltb dst n target) refl

pub depuncture_accepts : (mode n src dst : ℕ) → mode ≤ 6 → n ≤ 4096 → n ≤ src → needed mode n ≤ dst → depuncture_refusal mode n src dst ≡ accepted
depuncture_accepts mode n src dst kind limit source target =
    rw (le-ltb 6 mode kind, le-ltb 4096 n limit, le-ltb src n source, le-ltb dst (needed mode n) target) refl

-- ---- and nothing else is
pub puncture_holds : (mode n src dst : ℕ) → puncture_refusal mode n src dst ≡ accepted → (mode ≤ 6) × (n ≤ 4096) × (needed mode n ≤ src) × (n ≤ dst)
puncture_holds mode n src dst e =
    let p = passed (ltb 6 mode) refusals.Kind _ e in
    let q = passed (ltb 4096 n) refusals.Limit _ p.1 in
    let r = roomy src (needed mode n) dst n q.1 in
    (ltb-false 6 mode p.0, ltb-false 4096 n q.0, r.0, r.1)

pub depuncture_holds : (mode n src dst : ℕ) → depuncture_refusal mode n src dst ≡ accepted → (mode ≤ 6) × (n ≤ 4096) × (n ≤ src) × (needed mode n ≤ dst)
depuncture_holds mode n src dst e =
    let p = passed (ltb 6 mode) refusals.Kind _ e in
    let q = passed (ltb 4096 n) refusals.Limit _ p.1 in
    let r = roomy src n dst (needed mode n) q.1 in
    (ltb-false 6 mode p.0, ltb-false 4096 n q.0, r.0, r.1)
