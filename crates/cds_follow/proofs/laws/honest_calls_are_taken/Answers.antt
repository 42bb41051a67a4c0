use Rattle.cds_follow.proofs.Honest.{calls-taken}
use Rattle.cds_follow.proofs.laws.honest_calls_are_taken.Goals as goal

pub returns : goal.returns
returns c = calls-taken
