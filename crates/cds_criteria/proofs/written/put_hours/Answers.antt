use Rattle.std.proofs.Common.{◌/◌, ◌^◌, ◌<◌, ap, ◌∙◌, length, length-append, arith}
use Rattle.std.specs.Fmt.{decimal}
use Rattle.std.proofs.lemmas.Fmt.{length-decimal-le}
use Rattle.cds_criteria.proofs.written.put_hours.Goals as goal

pub put_decimal-requires : goal.put_decimal-requires
put_decimal-requires c =
    let small : c.args.ms / 3600000 < 2 ^ 64 = omega (arith, c.ranges.ms.fits) in
    let few = length-decimal-le 20 (c.args.ms / 3600000) (omega arith) (omega (arith, small)) small in
    omega (arith, c.requires, few)

pub returns-clause-short : goal.returns-clause-short
returns-clause-short c =
    let small : c.args.ms / 3600000 < 2 ^ 64 = omega (arith, c.ranges.ms.fits) in
    let few = length-decimal-le 20 (c.args.ms / 3600000) (omega arith) (omega (arith, small)) small in
    let all = ap length c.put_decimal.ensures ∙ length-append c.args.out.now (decimal (c.args.ms / 3600000)) in
    omega (arith, few, all)
