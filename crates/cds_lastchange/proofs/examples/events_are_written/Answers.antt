use Rattle.cds_lastchange.proofs.Evaluating.{are-written}
use Rattle.cds_lastchange.proofs.examples.events_are_written.Goals as goal

pub returns : goal.returns
returns c = are-written
