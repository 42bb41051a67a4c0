use Rattle.cds_criteria.proofs.Order.{order_total}
use Rattle.cds_criteria.proofs.laws.order_is_total.Goals as goal

pub returns : goal.returns
returns c = order_total
