use Rattle.cds_soap.proofs.AnswersBack.{answers-are-read}
use Rattle.cds_soap.proofs.laws.answers_are_read.Goals as goal

pub returns : goal.returns
returns c = answers-are-read
