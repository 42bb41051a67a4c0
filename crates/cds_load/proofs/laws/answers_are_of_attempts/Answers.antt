use Rattle.cds_load.proofs.Traces.{answers-of_attempts}
use Rattle.cds_load.proofs.laws.answers_are_of_attempts.Goals as goal

pub returns : goal.returns
returns c = answers-of_attempts
