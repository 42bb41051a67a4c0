use Rattle.cds_exchange.proofs.OneReading.{readings-are-one}
use Rattle.cds_exchange.proofs.laws.readings_are_one.Goals as goal

pub returns : goal.returns
returns c = readings-are-one
