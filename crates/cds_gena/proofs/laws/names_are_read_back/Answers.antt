use Rattle.cds_gena.proofs.Served.{read-back}
use Rattle.cds_gena.proofs.laws.names_are_read_back.Goals as goal

pub returns : goal.returns
returns c = read-back
