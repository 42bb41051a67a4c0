use Rattle.std.proofs.Common.{arith}
use Rattle.std.proofs.lemmas.Fmt.{length-decimal-le}
use Rattle.cds_criteria.proofs.written.put_three.Goals as goal

pub put_decimal-requires : goal.put_decimal-requires
put_decimal-requires c =
    let few = length-decimal-le 3 c.args.n (omega arith) (omega (arith, c.requires.small)) (omega (arith, c.requires.small)) in
    omega (arith, c.requires.room, c.put_zero.ensures.short, c.put_zero-2.ensures.short, few)
