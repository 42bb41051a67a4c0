use Rattle.cds_follow.proofs.Position.{position-greatest}
use Rattle.cds_follow.proofs.laws.position_is_the_greatest.Goals as goal

pub returns : goal.returns
returns c = position-greatest
