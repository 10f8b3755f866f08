-- What holds where a control chain refuses nothing: of a kind's numbers, and of the kind.
-- Assumes nothing.
use mathlib.Core.Path.{◌≡◌, sym, ap₂}
use mathlib.Core.List.{List}
use mathlib.Core.Bool.{true, not}
use Prim.Native.Nat.{ℕ, ◌≤◌}
use lib.Dec.{ltb}
use borrow.Author.Tests.{ltb-false, not-false, le-ltb}
use lib.ListN.{length}
use Rattle.base.specs.Refusal.{Owed, BIT, ROOM, accepted, when, sized}
use Rattle.base.specs.Bits.{bits_only}
use Rattle.base.proofs.Refusals.{passed}
use Rattle.errorcontrol_cp.specs.Kinds.{is_kind, data_bits, word_bits, air_symbols}
use Rattle.errorcontrol_cp.specs.private.Kinds.{Numbers}
use Rattle.errorcontrol_cp.specs.Sending.{send_refusal}
use Rattle.errorcontrol_cp.specs.Receiving.{receive_refusal}

-- ---- sending
abbrev pub send_by : ℕ → ℕ → List ℕ → ℕ → Owed
send_by d k block air = sized (length block) d air k (when (not (bits_only d block)) BIT accepted)

pub send_is : (kind d n k a : ℕ) (block : List ℕ) (air : ℕ) → Numbers kind d n k a → send_refusal kind block air ≡ send_by d k block air
send_is kind d n k a block air is = rw is.known (ap₂ (λ (x y : ℕ). send_by x y block air) (sym is.block) (sym is.air))

pub record SendFits (d k : ℕ) (block : List ℕ) (air : ℕ) : Type 0 where
  pub long : d ≤ length block
  pub room : k ≤ air
  pub plain : bits_only d block ≡ true

pub send_fits : (d k : ℕ) (block : List ℕ) (air : ℕ) → send_by d k block air ≡ accepted → SendFits d k block air
send_fits d k block air e =
    let first = passed (ltb (length block) d) _ _ e in
    let second = passed (ltb air k) _ _ first.1 in
    let third = passed (not (bits_only d block)) _ _ second.1 in
    record {
      long = ltb-false (length block) d first.0;
      room = ltb-false air k second.0;
      plain = not-false (bits_only d block) third.0;
    }

pub record SendAccepted (kind : ℕ) (block : List ℕ) (air : ℕ) : Type 0 where
  pub known : is_kind kind ≡ true
  pub fits : SendFits (data_bits kind) (air_symbols kind) block air

pub send_accepts : (kind : ℕ) (block : List ℕ) (air : ℕ) → send_refusal kind block air ≡ accepted → SendAccepted kind block air
send_accepts kind block air e =
    let first = passed (not (is_kind kind)) _ _ e in
    record { known = not-false (is_kind kind) first.0; fits = send_fits (data_bits kind) (air_symbols kind) block air first.1 }

-- ---- receiving
abbrev pub receive_by : ℕ → ℕ → ℕ → ℕ → ℕ → Owed
receive_by n k air word trellis = sized air k word n (when (ltb trellis n) ROOM accepted)

pub receive_is : (kind d n k a air word trellis : ℕ) → Numbers kind d n k a → receive_refusal kind air word trellis ≡ receive_by n k air word trellis
receive_is kind d n k a air word trellis is = rw is.known (ap₂ (λ (x y : ℕ). receive_by x y air word trellis) (sym is.word) (sym is.air))

pub receive_none : (kind air word trellis : ℕ) → is_kind kind ≡ true → air_symbols kind ≤ air → word_bits kind ≤ word → word_bits kind ≤ trellis
    → accepted ≡ receive_refusal kind air word trellis
receive_none kind air word trellis known long room steps =
    rw (known, le-ltb air (air_symbols kind) long, le-ltb word (word_bits kind) room, le-ltb trellis (word_bits kind) steps)

pub record ReceiveFits (n k air word trellis : ℕ) : Type 0 where
  pub long : k ≤ air
  pub room : n ≤ word
  pub steps : n ≤ trellis

pub receive_fits : (n k air word trellis : ℕ) → receive_by n k air word trellis ≡ accepted → ReceiveFits n k air word trellis
receive_fits n k air word trellis e =
    let first = passed (ltb air k) _ _ e in
    let second = passed (ltb word n) _ _ first.1 in
    let third = passed (ltb trellis n) _ _ second.1 in
    record { long = ltb-false air k first.0; room = ltb-false word n second.0; steps = ltb-false trellis n third.0 }

pub record ReceiveAccepted (kind air word trellis : ℕ) : Type 0 where
  pub known : is_kind kind ≡ true
  pub fits : ReceiveFits (word_bits kind) (air_symbols kind) air word trellis

pub receive_accepts : (kind air word trellis : ℕ) → receive_refusal kind air word trellis ≡ accepted → ReceiveAccepted kind air word trellis
receive_accepts kind air word trellis e =
    let first = passed (not (is_kind kind)) _ _ e in
    record { known = not-false (is_kind kind) first.0; fits = receive_fits (word_bits kind) (air_symbols kind) air word trellis first.1 }
