use Rattle.std.proofs.Common.{sym, subst}
use Rattle.cds_http.specs.Written.{CanBeWritten}
use Rattle.cds_soap.proofs.Fields.{request-fields-written}
use Rattle.cds_soap.proofs.request_text.write_action.Goals as goal

pub write_request-requires : goal.write_request-requires
write_request-requires c =
    subst CanBeWritten (sym c.in_ok-fields.ensures) (request-fields-written c.name.result c.args.url.now c.slice-target.ensures.valid)
