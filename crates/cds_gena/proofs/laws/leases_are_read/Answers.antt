use Rattle.cds_gena.proofs.Leases.{leases-read}
use Rattle.cds_gena.proofs.laws.leases_are_read.Goals as goal

pub returns : goal.returns
returns c = leases-read
