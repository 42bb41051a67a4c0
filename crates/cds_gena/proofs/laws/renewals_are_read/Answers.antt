use Rattle.cds_gena.proofs.Requests.{renewals-read}
use Rattle.cds_gena.proofs.laws.renewals_are_read.Goals as goal

pub returns : goal.returns
returns c = renewals-read
