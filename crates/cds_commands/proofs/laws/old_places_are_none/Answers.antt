use Rattle.cds_commands.proofs.Far.{old-none}
use Rattle.cds_commands.proofs.laws.old_places_are_none.Goals as goal

pub returns : goal.returns
returns c = old-none
