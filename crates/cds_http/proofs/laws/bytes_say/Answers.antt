use Rattle.cds_http.proofs.Sayings.{bytes_say}
use Rattle.cds_http.proofs.laws.bytes_say.Goals as goal

pub returns : goal.returns
returns c = bytes_say
