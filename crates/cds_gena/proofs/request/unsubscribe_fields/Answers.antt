use Rattle.std.proofs.Common.{rules, ◌≡◌, subst, sym}
use Rattle.cds_http.specs.Written.{CanBeWritten}
use Rattle.cds_gena.specs.Written.{unsubscribe_fields}
use Rattle.cds_gena.proofs.Requests.{unsubscribe-can}
use Rattle.cds_gena.proofs.request.unsubscribe_fields.Goals as goal

pub returns-clause-can : goal.returns-clause-can
returns-clause-can c =
    let same : c.push-2.new.self ≡ unsubscribe_fields c.args.url.now c.args.sid.0 = search rules in
    subst CanBeWritten (sym same) (unsubscribe-can c.args.url.now c.args.sid.0 c.slice-host.ensures.valid)
