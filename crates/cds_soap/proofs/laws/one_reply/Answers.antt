use Rattle.cds_soap.proofs.OneAnswer.{one-reply-answer}
use Rattle.cds_soap.proofs.laws.one_reply.Goals as goal

pub returns : goal.returns
returns c = one-reply-answer
