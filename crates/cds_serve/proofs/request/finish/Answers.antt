use Rattle.std.proofs.Common.{Some, subst}
use Rattle.cds_http.specs.declared.message.Side.TheVariants as side
use Rattle.cds_serve.proofs.Coming.{Said, all-said, err-request, ok-request}
use Rattle.cds_serve.proofs.request.finish.Goals as goal

pub returns-in-Ok-clause-request : goal.returns-in-Ok-clause-request
returns-in-Ok-clause-request c bytes all known d =
    let said = all-said bytes c.args.reader c.finish.result all (c.finish.ensures side.Request (Some all.came) all.stands) known d in
    ok-request known c.in-Ok.message c.judged.result (subst (λ r. Said known r) c.in-Ok.is said) c.judged.ensures.request

pub returns-in-Err-clause-request : goal.returns-in-Err-clause-request
returns-in-Err-clause-request c bytes all known d =
    let said = all-said bytes c.args.reader c.finish.result all (c.finish.ensures side.Request (Some all.came) all.stands) known d in
    err-request known c.in-Err.refusal c.refused.result (subst (λ r. Said known r) c.in-Err.is said) c.refused.ensures.refused c.refused.ensures.cut
