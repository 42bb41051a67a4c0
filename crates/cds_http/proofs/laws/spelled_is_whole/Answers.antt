use Rattle.cds_http.proofs.Backwards.{spelled_is_whole}
use Rattle.cds_http.proofs.laws.spelled_is_whole.Goals as goal

pub returns : goal.returns
returns c = spelled_is_whole
