use Rattle.cds_lastchange.proofs.Evaluating.{are-between}
use Rattle.cds_lastchange.proofs.examples.text_between_is_refused.Goals as goal

pub returns : goal.returns
returns c = are-between
