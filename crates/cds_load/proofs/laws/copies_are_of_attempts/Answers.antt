use Rattle.cds_load.proofs.Traces.{copies-of_attempts}
use Rattle.cds_load.proofs.laws.copies_are_of_attempts.Goals as goal

pub returns : goal.returns
returns c = copies-of_attempts
