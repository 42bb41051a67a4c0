use Rattle.cds_server.proofs.Ticked.{notes-sent}
use Rattle.cds_server.proofs.laws.notes_are_sent.Goals as goal

pub returns : goal.returns
returns c = notes-sent
