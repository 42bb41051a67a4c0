use Rattle.cds_criteria.proofs.Texts.{hold}
use Rattle.cds_criteria.proofs.laws.outcomes_hold.Goals as goal

pub returns : goal.returns
returns c = hold
