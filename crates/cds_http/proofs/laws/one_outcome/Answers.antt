use Rattle.cds_http.proofs.Once.{one_outcome}
use Rattle.cds_http.proofs.laws.one_outcome.Goals as goal

pub returns : goal.returns
returns c = one_outcome
