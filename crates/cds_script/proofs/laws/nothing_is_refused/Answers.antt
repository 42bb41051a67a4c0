use Rattle.cds_script.proofs.Stood.{turns-taken}
use Rattle.cds_script.proofs.laws.nothing_is_refused.Goals as goal

pub returns : goal.returns
returns c = turns-taken
