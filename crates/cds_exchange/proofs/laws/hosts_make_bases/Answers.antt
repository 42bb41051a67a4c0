use Rattle.cds_exchange.proofs.Bases.{hosts-make-bases}
use Rattle.cds_exchange.proofs.laws.hosts_make_bases.Goals as goal

pub returns : goal.returns
returns c = hosts-make-bases
