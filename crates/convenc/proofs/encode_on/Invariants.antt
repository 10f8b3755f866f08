-- Before bit i the target is what the definition gives for the bits before it.
use Rattle.convenc.proofs.Running.{Reading}
use Rattle.convenc.proofs.encode_on.Given as goal

abbrev pub invariant-loop-i : goal.invariant-loop-i
invariant-loop-i g l = Reading g.C.Code.generators l.input l.initial.output l.i l.output
