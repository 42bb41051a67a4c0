use Rattle.cds_criteria.proofs.Order.{same_rows}
use Rattle.cds_criteria.proofs.laws.ordered_are_the_same.Goals as goal

pub returns : goal.returns
returns c = same_rows
