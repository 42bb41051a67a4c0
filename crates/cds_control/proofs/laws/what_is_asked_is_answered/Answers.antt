use Rattle.cds_soap.proofs.OneAnswer.{one-ask}
use Rattle.cds_control.proofs.Passing.{answers-it}
use Rattle.cds_control.proofs.laws.what_is_asked_is_answered.Goals as goal

pub returns : goal.returns
returns c = answers-it one-ask
