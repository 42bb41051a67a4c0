use Rattle.cds_criteria.proofs.Texts.{given}
use Rattle.cds_criteria.proofs.laws.outcomes_are_given.Goals as goal

pub returns : goal.returns
returns c = given
