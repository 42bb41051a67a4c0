use Rattle.cds_http.proofs.StageForms.{reader_ends}
use Rattle.cds_http.proofs.reader.MessageReader.finish.Goals as goal

pub returns : goal.returns
returns c side came stands = reader_ends side came c.args.self c.end_stage.result stands c.end_stage.ensures.ends c.end_stage.ensures.failed
