use Rattle.cds_media.proofs.Exact.{exact}
use Rattle.cds_media.proofs.laws.plans_are_exact.Goals as goal

pub returns : goal.returns
returns c = exact
