use Rattle.cds_load.proofs.Traces.{refusals-of_attempts}
use Rattle.cds_load.proofs.laws.refusals_are_of_attempts.Goals as goal

pub returns : goal.returns
returns c = refusals-of_attempts
