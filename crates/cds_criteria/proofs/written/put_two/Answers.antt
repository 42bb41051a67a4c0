use Rattle.std.proofs.Common.{ap, ◌∙◌, length, length-append, arith}
use Rattle.std.specs.Fmt.{decimal}
use Rattle.std.proofs.lemmas.Fmt.{length-decimal-le}
use Rattle.cds_criteria.proofs.written.put_two.Goals as goal

pub put_decimal-requires : goal.put_decimal-requires
put_decimal-requires c =
    let few = length-decimal-le 2 c.args.n (omega arith) (omega (arith, c.requires.small)) (omega (arith, c.requires.small)) in
    omega (arith, c.requires.room, c.put_zero.ensures.short, few)

pub returns-clause-short : goal.returns-clause-short
returns-clause-short c =
    let few = length-decimal-le 2 c.args.n (omega arith) (omega (arith, c.requires.small)) (omega (arith, c.requires.small)) in
    let all = ap length c.put_decimal.ensures ∙ length-append c.put_zero.new.out (decimal c.args.n) in
    omega (arith, c.put_zero.ensures.short, few, all)
