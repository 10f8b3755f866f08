use Prim.Native.Nat.{◌/◌, ◌%◌, ◌^◌}
use Rattle.scrambler.proofs.Fours.{spread_bits}
use Rattle.scrambler.proofs.Register.outputs.Goals as goal

pub returns : goal.returns
returns c =
    let a = c.args in
    λ e h. spread_bits a.spread.now (a.self.bits / 2 ^ (a.i % 32)) e c.requires h
