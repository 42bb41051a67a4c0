use Rattle.cds_script.proofs.Bounded.{loads-bounded}
use Rattle.cds_script.proofs.laws.loads_are_bounded.Goals as goal

pub returns : goal.returns
returns c = loads-bounded
