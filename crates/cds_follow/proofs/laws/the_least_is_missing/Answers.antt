use Rattle.cds_follow.proofs.Received.{least-missing}
use Rattle.cds_follow.proofs.laws.the_least_is_missing.Goals as goal

pub returns : goal.returns
returns c = least-missing
