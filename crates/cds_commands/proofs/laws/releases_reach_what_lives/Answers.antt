use Rattle.cds_commands.proofs.Delivered.{lived-where}
use Rattle.cds_commands.proofs.laws.releases_reach_what_lives.Goals as goal

pub returns : goal.returns
returns c = lived-where
