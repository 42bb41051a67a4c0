use Rattle.cds_exchange.proofs.Honest.{asks-are-read}
use Rattle.cds_exchange.proofs.laws.asks_are_read.Goals as goal

pub returns : goal.returns
returns c = asks-are-read
