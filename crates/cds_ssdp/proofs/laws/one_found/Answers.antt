use Rattle.cds_ssdp.proofs.Single.{one-found}
use Rattle.cds_ssdp.proofs.laws.one_found.Goals as goal

pub returns : goal.returns
returns c = one-found
