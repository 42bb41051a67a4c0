use Rattle.cds_http.proofs.Chunking.{turns_bad}
use Rattle.cds_http.proofs.body.end_line.Goals as goal

pub returns-in-Err : goal.returns-in-Err
returns-in-Err c ends short = turns_bad c.args.bytes c.args.line.now c.in-Err.refusal (c.in-Err.ensures ends) ends short
