use Rattle.cds_http.proofs.Returning.{replies_are_read_back}
use Rattle.cds_http.proofs.laws.replies_are_read_back.Goals as goal

pub returns : goal.returns
returns c = replies_are_read_back
