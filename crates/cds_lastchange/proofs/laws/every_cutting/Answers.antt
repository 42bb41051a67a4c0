use Rattle.cds_lastchange.proofs.Feeding.{every-cutting}
use Rattle.cds_lastchange.proofs.laws.every_cutting.Goals as goal

pub returns : goal.returns
returns c = every-cutting
