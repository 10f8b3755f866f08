use borrow.Author.Rules.{rules}
use Rattle.std.proofs.Common.{◌≤◌, length, arith}
use Rattle.streaming.specs.private.Advancing.{Roomy}
use Rattle.reading.proofs.Parts.{brings_goes, brings_full, brings_unknown}
use Rattle.reading.proofs.inner.bring.Goals as goal

pub returns-then-p : goal.returns-then-p
returns-then-p c =
    let fits : c.advance-p.result.written ≤ length c.advance-p.new.out =
    omega (arith, c.advance-p.ensures.written_in, c.advance-p.auto.out) in
    brings_unknown _ _ _ c.advance-p.ensures (search rules) fits c.close.ensures.0 c.close.ensures.1

pub returns-then-p-2 : goal.returns-then-p-2
returns-then-p-2 c =
    brings_full _ _ _ c.advance-p.ensures (search rules) (search rules) (omega (arith, c.advance-p.ensures.written_in, c.advance-p.auto.out))

pub returns : goal.returns
returns c =
    let roomy : Roomy c.args.bytes.now c.args.out.now c.advance-p.result =
    record { lines = omega (arith, c.requires); number = omega (arith, c.if-p-2.false) } in
    brings_goes _ _ _ c.advance-p.ensures (omega (arith, c.advance-p.auto.bytes)) (search rules) roomy
    (omega (arith, c.advance-p.ensures.written_in, c.advance-p.auto.out))
