use Rattle.cds_soap.proofs.OneAnswer.{one-ask}
use Rattle.cds_control.proofs.OneReply.{one-control}
use Rattle.cds_server.proofs.OneReply.{replies-are-one}
use Rattle.cds_server.proofs.laws.one_reply.Goals as goal

pub returns : goal.returns
returns c = replies-are-one (one-control one-ask)
