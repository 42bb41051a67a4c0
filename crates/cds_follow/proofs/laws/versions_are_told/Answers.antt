use Rattle.cds_follow.proofs.Served.{versions-told}
use Rattle.cds_follow.proofs.laws.versions_are_told.Goals as goal

pub returns : goal.returns
returns c = versions-told
