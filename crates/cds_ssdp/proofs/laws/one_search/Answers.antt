use Rattle.cds_ssdp.proofs.Single.{one-search}
use Rattle.cds_ssdp.proofs.laws.one_search.Goals as goal

pub returns : goal.returns
returns c = one-search
