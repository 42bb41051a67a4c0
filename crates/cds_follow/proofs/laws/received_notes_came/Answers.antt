use Rattle.cds_follow.proofs.Came.{notes-came}
use Rattle.cds_follow.proofs.laws.received_notes_came.Goals as goal

pub returns : goal.returns
returns c = notes-came
