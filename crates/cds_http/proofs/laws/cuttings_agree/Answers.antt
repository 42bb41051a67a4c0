use Rattle.cds_http.proofs.Cuttings.{cuttings_agree}
use Rattle.cds_http.proofs.laws.cuttings_agree.Goals as goal

pub returns : goal.returns
returns c = cuttings_agree
