use Rattle.cds_http.proofs.HeadEnds.{heads_refused}
use Rattle.cds_http.proofs.laws.heads_refused.Goals as goal

pub returns : goal.returns
returns c = heads_refused
