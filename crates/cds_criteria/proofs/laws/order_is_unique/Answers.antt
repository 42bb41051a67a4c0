use Rattle.cds_criteria.proofs.Unique.{order_unique}
use Rattle.cds_criteria.proofs.laws.order_is_unique.Goals as goal

pub returns : goal.returns
returns c = order_unique
