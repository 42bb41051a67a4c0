use Rattle.cds_generate.proofs.Played.{are-played}
use Rattle.cds_generate.proofs.laws.scripts_are_played.Goals as goal

pub returns : goal.returns
returns c = are-played
