use Rattle.std.proofs.Common.{arith}
use Rattle.cds_http.proofs.ReadForms.{trailer_read}
use Rattle.cds_http.proofs.body.is_trailer.Goals as goal

pub returns-in-Ok-Complete : goal.returns-in-Ok-Complete
returns-in-Ok-Complete c whole =
    let found = rw c.in-Ok-Complete.field-0-is at c.in-Ok-Complete.ensures.complete in
    trailer_read c.args.text.now c.parse_headers.new.headers c.in-Ok-Complete.field-0-0.0 c.in-Ok-Complete.field-0-0.1
    (omega (arith, c.parse_headers.auto.headers)) found whole
