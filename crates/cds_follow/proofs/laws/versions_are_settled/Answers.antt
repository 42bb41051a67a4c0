use Rattle.cds_follow.proofs.Served.{versions-settled}
use Rattle.cds_follow.proofs.laws.versions_are_settled.Goals as goal

pub returns : goal.returns
returns c = versions-settled
