use Rattle.cds_gena.proofs.Requests.{subscribes-read}
use Rattle.cds_gena.proofs.laws.subscribes_are_read.Goals as goal

pub returns : goal.returns
returns c = subscribes-read
