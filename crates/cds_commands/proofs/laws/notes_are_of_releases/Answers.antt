use Rattle.cds_commands.proofs.Delivered.{of-releases}
use Rattle.cds_commands.proofs.laws.notes_are_of_releases.Goals as goal

pub returns : goal.returns
returns c = of-releases
