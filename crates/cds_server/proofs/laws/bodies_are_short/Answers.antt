use Rattle.cds_server.proofs.Short.{release-short}
use Rattle.cds_server.proofs.laws.bodies_are_short.Goals as goal

pub returns : goal.returns
returns c = release-short
