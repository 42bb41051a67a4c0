use Rattle.cds_load.proofs.Traces.{asks-of_attempts}
use Rattle.cds_load.proofs.laws.asks_are_of_attempts.Goals as goal

pub returns : goal.returns
returns c = asks-of_attempts
