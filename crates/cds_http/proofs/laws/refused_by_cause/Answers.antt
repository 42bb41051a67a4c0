use Rattle.cds_http.proofs.Sayings.{refused_by_cause}
use Rattle.cds_http.proofs.laws.refused_by_cause.Goals as goal

pub returns : goal.returns
returns c = refused_by_cause
