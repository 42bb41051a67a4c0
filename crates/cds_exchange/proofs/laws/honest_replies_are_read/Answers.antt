use Rattle.cds_exchange.proofs.Honest.{honest-replies-are-read}
use Rattle.cds_exchange.proofs.laws.honest_replies_are_read.Goals as goal

pub returns : goal.returns
returns c = honest-replies-are-read
