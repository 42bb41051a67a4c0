use Rattle.cds_gena.proofs.Requests.{unsubscribes-read}
use Rattle.cds_gena.proofs.laws.unsubscribes_are_read.Goals as goal

pub returns : goal.returns
returns c = unsubscribes-read
