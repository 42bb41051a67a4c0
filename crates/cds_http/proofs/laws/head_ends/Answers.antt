use Rattle.cds_http.proofs.HeadEnds.{head_ends}
use Rattle.cds_http.proofs.laws.head_ends.Goals as goal

pub returns : goal.returns
returns c = head_ends
