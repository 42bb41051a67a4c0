use Rattle.cds_soap.proofs.OneAnswer.{one-ask}
use Rattle.cds_soap.proofs.laws.one_ask.Goals as goal

pub returns : goal.returns
returns c = one-ask
