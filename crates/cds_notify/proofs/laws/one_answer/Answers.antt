use Rattle.cds_notify.proofs.Reading.{one-answer}
use Rattle.cds_notify.proofs.laws.one_answer.Goals as goal

pub returns : goal.returns
returns c = one-answer
