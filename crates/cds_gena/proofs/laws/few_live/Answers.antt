use Rattle.cds_gena.proofs.Served.{few}
use Rattle.cds_gena.proofs.laws.few_live.Goals as goal

pub returns : goal.returns
returns c = few
