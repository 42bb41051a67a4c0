use Rattle.cds_lastchange.proofs.Evaluating.{are-refused}
use Rattle.cds_lastchange.proofs.examples.others_are_refused.Goals as goal

pub returns : goal.returns
returns c = are-refused
