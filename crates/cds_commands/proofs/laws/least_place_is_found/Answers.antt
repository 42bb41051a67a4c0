use Rattle.cds_commands.proofs.Places.{found}
use Rattle.cds_commands.proofs.laws.least_place_is_found.Goals as goal

pub returns : goal.returns
returns c = found
