use Rattle.cds_exchange.proofs.Histories.{histories-are-plain}
use Rattle.cds_exchange.proofs.laws.histories_are_plain.Goals as goal

pub returns : goal.returns
returns c = histories-are-plain
