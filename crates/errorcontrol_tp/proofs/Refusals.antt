-- What no refusal says of the lengths, and how long the slot is that symbols are read as the last of.
-- Assumes nothing.
use mathlib.Core.Path.{◌≡◌}
use mathlib.Core.List.{List}
use mathlib.Core.Bool.{true, not}
use Prim.Native.Nat.{ℕ, ◌-◌, ◌≤◌}
use native.Mathlib.Omega.{arith}
use lib.Dec.{ltb}
use borrow.Author.Tests.{ltb-false, not-false}
use lib.ListN.{length, take, replicate, length-append, length-replicate}
use lib.Seq.{length-take-le}
use Rattle.base.specs.Bits.{bits_only, ERASED}
use Rattle.base.specs.declared.Refusal.TheVariants as refusals
use Rattle.base.specs.Refusal.{accepted}
use Rattle.base.proofs.Refusals.{passed}
use Rattle.errorcontrol_tp.specs.Sending.{send_refusal}
use Rattle.errorcontrol_tp.specs.Receiving.{receive_refusal, slot_of}

pub record SendAccepted (count : ℕ) (codec : List ℕ) (air : ℕ) : Type 0 where
  pub long : 274 ≤ length codec
  pub room : count ≤ air
  pub plain : bits_only 274 codec ≡ true

pub send_accepted : (count : ℕ) (codec : List ℕ) (air : ℕ) → send_refusal count codec air ≡ accepted → SendAccepted count codec air
send_accepted count codec air e =
    let first = passed (ltb (length codec) 274) refusals.Short _ e in
    let second = passed (ltb air count) refusals.Room _ first.1 in
    let third = passed (not (bits_only 274 codec)) refusals.Bit _ second.1 in
    record {
      long = ltb-false (length codec) 274 first.0;
      room = ltb-false air count second.0;
      plain = not-false (bits_only 274 codec) third.0;
    }

pub record ReceiveAccepted (count air codec trellis : ℕ) : Type 0 where
  pub long : count ≤ air
  pub room : 274 ≤ codec
  pub steps : 184 ≤ trellis

pub receive_accepted : (count air codec trellis : ℕ) → receive_refusal count air codec trellis ≡ accepted → ReceiveAccepted count air codec trellis
receive_accepted count air codec trellis e =
    let first = passed (ltb air count) refusals.Short _ e in
    let second = passed (ltb codec 274) refusals.Room _ first.1 in
    let third = passed (ltb trellis 184) refusals.Room _ second.1 in
    record {
      long = ltb-false air count first.0;
      room = ltb-false codec 274 second.0;
      steps = ltb-false trellis 184 third.0;
    }

pub slot_whole : (count : ℕ) (air : List ℕ) → count ≤ 432 → count ≤ length air → length (slot_of count air) ≡ 432
slot_whole count air most h =
    omega (arith, length-append (replicate (432 - count) ERASED) (take count air), length-replicate (432 - count) ERASED, length-take-le count air h)
