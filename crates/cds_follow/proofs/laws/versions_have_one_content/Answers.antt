use Rattle.cds_follow.proofs.Served.{one-content}
use Rattle.cds_follow.proofs.laws.versions_have_one_content.Goals as goal

pub returns : goal.returns
returns c = one-content
