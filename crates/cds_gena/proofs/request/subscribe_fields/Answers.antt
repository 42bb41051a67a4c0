use Rattle.std.proofs.Common.{rules, ◌≡◌, subst, sym}
use Rattle.cds_http.specs.Written.{CanBeWritten}
use Rattle.cds_gena.specs.Written.{subscribe_fields}
use Rattle.cds_gena.proofs.Requests.{subscribe-can}
use Rattle.cds_gena.proofs.request.subscribe_fields.Goals as goal

pub returns-clause-can : goal.returns-clause-can
returns-clause-can c =
    let same : c.push-4.new.self ≡ subscribe_fields c.args.url.now c.args.callback.now = search rules in
    subst CanBeWritten (sym same) (subscribe-can c.args.url.now c.args.callback.now c.slice-host.ensures.valid c.in_ok-callback.ensures.valid c.requires.delivered)
