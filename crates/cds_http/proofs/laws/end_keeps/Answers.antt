use Rattle.cds_http.proofs.Sayings.{end_keeps}
use Rattle.cds_http.proofs.laws.end_keeps.Goals as goal

pub returns : goal.returns
returns c = end_keeps
