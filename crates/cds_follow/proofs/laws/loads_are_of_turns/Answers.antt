use Rattle.cds_follow.proofs.LoadTurns.{loads-are-of-turns}
use Rattle.cds_follow.proofs.laws.loads_are_of_turns.Goals as goal

pub returns : goal.returns
returns c = loads-are-of-turns
