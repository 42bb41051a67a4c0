use Rattle.cds_http.proofs.Returning.{requests_are_read_back}
use Rattle.cds_http.proofs.laws.requests_are_read_back.Goals as goal

pub returns : goal.returns
returns c = requests_are_read_back
