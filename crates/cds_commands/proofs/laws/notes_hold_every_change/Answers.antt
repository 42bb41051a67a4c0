use Rattle.cds_commands.proofs.Chain.{notes-hold}
use Rattle.cds_commands.proofs.laws.notes_hold_every_change.Goals as goal

pub returns : goal.returns
returns c = notes-hold
