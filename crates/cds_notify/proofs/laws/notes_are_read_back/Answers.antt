use Rattle.cds_notify.proofs.Notes.{notes-read}
use Rattle.cds_notify.proofs.laws.notes_are_read_back.Goals as goal

pub returns : goal.returns
returns c = notes-read
