use Rattle.cds_control.proofs.Listed.{listed}
use Rattle.cds_control.proofs.laws.capabilities_are_whole.Goals as goal

pub returns : goal.returns
returns c = listed
