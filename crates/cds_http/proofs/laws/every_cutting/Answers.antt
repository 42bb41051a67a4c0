use Rattle.cds_http.proofs.Cuttings.{every_cutting}
use Rattle.cds_http.proofs.laws.every_cutting.Goals as goal

pub returns : goal.returns
returns c = every_cutting
