use Rattle.std.proofs.Common.{arith}
use Rattle.cds_http.proofs.HeadForms.{request_kept}
use Rattle.cds_http.proofs.head.read_request_head.Goals as goal

pub returns-in-Ok-Complete : goal.returns-in-Ok-Complete
returns-in-Ok-Complete c ends =
    request_kept c.args.text.now c.parse_request.new.headers c.in-Ok-Complete.spans c.request_head.result (omega (arith, c.parse_request.auto.headers)) c.request_head.ensures ends
