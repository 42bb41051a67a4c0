use Rattle.cds_exchange.proofs.Honest.{pages-are-short}
use Rattle.cds_exchange.proofs.laws.pages_are_short.Goals as goal

pub returns : goal.returns
returns c = pages-are-short
