use Rattle.cds_criteria.proofs.Texts.{unique}
use Rattle.cds_criteria.proofs.laws.outcomes_are_unique.Goals as goal

pub returns : goal.returns
returns c = unique
