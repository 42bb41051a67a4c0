use Rattle.cds_criteria.proofs.Unique.{rows_ordered}
use Rattle.cds_criteria.proofs.laws.rows_are_ordered.Goals as goal

pub returns : goal.returns
returns c = rows_ordered
