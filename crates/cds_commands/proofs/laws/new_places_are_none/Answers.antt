use Rattle.cds_commands.proofs.Far.{new-none}
use Rattle.cds_commands.proofs.laws.new_places_are_none.Goals as goal

pub returns : goal.returns
returns c = new-none
