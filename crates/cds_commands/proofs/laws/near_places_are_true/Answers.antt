use Rattle.cds_commands.proofs.Near.{near}
use Rattle.cds_commands.proofs.laws.near_places_are_true.Goals as goal

pub returns : goal.returns
returns c = near
