-- Before bit i the target and the delays are what the definition gives for the bits before it.
use Rattle.convenc.proofs.Running.{Running}
use Rattle.convenc.proofs.Encoder.encode_each.Given as goal

abbrev pub invariant-loop-i : goal.invariant-loop-i
invariant-loop-i g l = Running g.C.Code.generators l.initial.s.delayed l.input l.initial.output l.i l.s.delayed l.output
