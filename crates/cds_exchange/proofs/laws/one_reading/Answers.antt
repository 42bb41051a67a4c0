use Rattle.cds_exchange.proofs.OneReading.{one-reading}
use Rattle.cds_exchange.proofs.laws.one_reading.Goals as goal

pub returns : goal.returns
returns c = one-reading
