use Rattle.cds_http.proofs.ReadForms.{size_read}
use Rattle.cds_http.proofs.body.read_size.Goals as goal

pub returns-in-Ok-Complete : goal.returns-in-Ok-Complete
returns-in-Ok-Complete c whole =
    let found = rw c.in-Ok-Complete.field-0-is at c.in-Ok-Complete.ensures.complete in
    size_read c.args.line.now c.in-Ok-Complete.field-0-0-0 c.in-Ok-Complete.size found.0 found.1 whole
