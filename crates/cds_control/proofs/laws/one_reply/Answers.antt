use Rattle.cds_soap.proofs.OneAnswer.{one-ask}
use Rattle.cds_control.proofs.OneReply.{one-control}
use Rattle.cds_control.proofs.laws.one_reply.Goals as goal

pub returns : goal.returns
returns c = one-control one-ask
