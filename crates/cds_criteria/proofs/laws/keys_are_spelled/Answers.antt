use Rattle.cds_criteria.proofs.Keys.{spelled}
use Rattle.cds_criteria.proofs.laws.keys_are_spelled.Goals as goal

pub returns : goal.returns
returns c = spelled
