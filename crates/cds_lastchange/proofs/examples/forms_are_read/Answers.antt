use Rattle.cds_lastchange.proofs.Evaluating.{are-read}
use Rattle.cds_lastchange.proofs.examples.forms_are_read.Goals as goal

pub returns : goal.returns
returns c = are-read
