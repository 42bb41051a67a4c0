use Rattle.cds_catalog.proofs.StepsWithin.{rows_are_within-proof}
use Rattle.cds_catalog.proofs.laws.rows_are_within.Goals as goal

pub returns : goal.returns
returns c = rows_are_within-proof
