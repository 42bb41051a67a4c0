use Rattle.cds_ssdp.proofs.Single.{one-answer}
use Rattle.cds_ssdp.proofs.laws.one_answer.Goals as goal

pub returns : goal.returns
returns c = one-answer
