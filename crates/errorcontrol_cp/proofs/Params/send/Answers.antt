-- The mother code stands in the work array, and goes from there on air.
use mathlib.Core.Path.{sym, ap, ap₂, ◌∙◌, subst}
use mathlib.Core.List.{List}
use Prim.Native.Nat.{ℕ, ◌*◌, ◌+◌}
use native.Mathlib.Omega.{arith}
use lib.ListN.{replicate}
use Rattle.base.specs.Bits.{Bits}
use Rattle.puncturing.specs.Puncturing.{needed}
use Rattle.stages.proofs.Calls.{front, front_length}
use Rattle.errorcontrol_cp.proofs.Chains.{mother_size, mother_bits}
use Rattle.errorcontrol_cp.proofs.Params.send.Goals as goal

work : List ℕ
work = replicate 1152 0

pub put_on_air-requires : goal.put_on_air-requires
unfolding work
put_on_air-requires c =
    let a = c.args in
    let e = c.encode_word in
    let b = c.on_air in
    let n = 4 * a.self.word in
    let size = mother_size a.«data».now e.new.mother e.ensures ∙ ap (λ (x : ℕ). 4 * (x + 20)) c.requires.0 ∙ ap (λ (x : ℕ). 4 * x) (sym a.self.tail) in (
      omega (arith, ap₂ needed b.ensures.0 b.ensures.1, a.self.reach, front_length n e.new.mother work size),
      subst Bits (sym (front n e.new.mother work size)) (mother_bits a.«data».now e.new.mother e.ensures),
      c.requires.2 ∙ sym b.ensures.1,
    )
