use Rattle.cds_load.proofs.Ends.{load-ends}
use Rattle.cds_load.proofs.laws.loads_end.Goals as goal

pub returns : goal.returns
returns c = load-ends
