use Rattle.cds_criteria.proofs.Order.{ways}
use Rattle.cds_criteria.proofs.laws.ways_lead_down.Goals as goal

pub returns : goal.returns
returns c = ways
