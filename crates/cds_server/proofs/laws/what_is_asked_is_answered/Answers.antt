use Rattle.cds_soap.proofs.OneAnswer.{one-ask}
use Rattle.cds_control.proofs.Passing.{answers-it as control-answers}
use Rattle.cds_server.proofs.Passing.{answers-it}
use Rattle.cds_server.proofs.laws.what_is_asked_is_answered.Goals as goal

pub returns : goal.returns
returns c = answers-it (control-answers one-ask)
