use Rattle.cds_server.proofs.Causes.{causes}
use Rattle.cds_server.proofs.laws.replies_have_causes.Goals as goal

pub returns : goal.returns
returns c = causes
