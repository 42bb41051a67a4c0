use Rattle.cds_follow.proofs.FewHeld.{few-held}
use Rattle.cds_follow.proofs.laws.at_most_64_are_held.Goals as goal

pub returns : goal.returns
returns c = few-held
