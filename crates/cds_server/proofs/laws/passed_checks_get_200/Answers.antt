use Rattle.cds_soap.proofs.OneAnswer.{one-ask}
use Rattle.cds_control.proofs.Passing.{passed as control-passed}
use Rattle.cds_server.proofs.Passing.{passed}
use Rattle.cds_server.proofs.laws.passed_checks_get_200.Goals as goal

pub returns : goal.returns
returns c = passed (control-passed one-ask)
