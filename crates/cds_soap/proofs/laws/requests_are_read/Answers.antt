use Rattle.cds_soap.proofs.RequestsBack.{requests-are-read}
use Rattle.cds_soap.proofs.laws.requests_are_read.Goals as goal

pub returns : goal.returns
returns c = requests-are-read
