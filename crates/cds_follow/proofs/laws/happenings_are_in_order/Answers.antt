use Rattle.cds_follow.proofs.InOrder.{in-order}
use Rattle.cds_follow.proofs.laws.happenings_are_in_order.Goals as goal

pub returns : goal.returns
returns c = in-order
