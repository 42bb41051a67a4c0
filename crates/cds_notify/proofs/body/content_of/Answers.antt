use Rattle.std.proofs.Common.{◌≡◌, Err, rules, subst}
use Rattle.cds_notify.specs.Reading.{EventsTold, IsSaid}
use Rattle.cds_notify.proofs.Reading.{no-document, no-said, no-events}
use Rattle.cds_notify.proofs.body.content_of.Goals as goal

pub returns-in-Err : goal.returns-in-Err
returns-in-Err c = no-document c.args.body.now c.in-Err.refusal c.in-Err.ensures

pub returns-in-None : goal.returns-in-None
returns-in-None c = no-said c.args.body.now (subst (λ o. IsSaid c.args.body.now o) c.in-None.is c.in-Ok.ensures)

pub returns : goal.returns
returns c =
    let same : c.as_bytes.result.now ≡ c.in-Some.said.changes = search rules in
    no-events c.args.body.now c.in-Some.said (subst (λ o. IsSaid c.args.body.now o) c.in-Some.is c.in-Ok.ensures) c.in-Err-events_in.refusal
    (subst (λ t. EventsTold t (Err c.in-Err-events_in.refusal)) same c.in-Err-events_in.ensures)
