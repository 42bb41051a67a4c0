use Rattle.cds_lastchange.proofs.Deciding.{one-answer}
use Rattle.cds_lastchange.proofs.laws.one_answer.Goals as goal

pub returns : goal.returns
returns c = one-answer
