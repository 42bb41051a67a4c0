use Rattle.cds_criteria.proofs.Ways.{ways_found}
use Rattle.cds_criteria.proofs.laws.ways_are_found.Goals as goal

pub returns : goal.returns
returns c = ways_found
