use Rattle.std.proofs.Common.{length, length-take-le, ap, ◌∙◌, arith}
use Rattle.cds_base.specs.Escape.{escaped}
use Rattle.cds_escape.proofs.Cuts.{length-cut}
use Rattle.cds_escape.proofs.escaped.escaped_length.Goals as goal

pub loop-front-preserved : goal.loop-front-preserved
loop-front-preserved c =
    let rest = c.loop-front.rest.now in
    let cases = c.in-Some.ensures.cases in
    let parts = length-cut rest 32 in
    let front = ap (λ x. length (escaped x)) cases.0 in
    let behind = ap (λ x. length (escaped x)) cases.1 in
    let few = ap length cases.0 ∙ length-take-le 32 rest (omega (arith, cases.2)) in (
      omega (arith, parts, front, behind, few, cases.2, c.more_in.ensures.size, c.from-more.ensures, c.loop-front.invariant.0),
      omega (arith, few, cases.2, c.more_in.ensures.most, c.from-more.ensures, c.loop-front.invariant.1),
    )
