use Rattle.cds_follow.proofs.Position.{fresh-counted}
use Rattle.cds_follow.proofs.laws.counted_changes_are_fresh.Goals as goal

pub returns : goal.returns
returns c = fresh-counted
