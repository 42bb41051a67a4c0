use Rattle.cds_control.proofs.Causes.{causes}
use Rattle.cds_control.proofs.laws.replies_have_causes.Goals as goal

pub returns : goal.returns
returns c = causes
