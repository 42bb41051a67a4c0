use Rattle.cds_lastchange.proofs.Deciding.{all-answered}
use Rattle.cds_lastchange.proofs.laws.all_are_answered.Goals as goal

pub returns : goal.returns
returns c = all-answered
