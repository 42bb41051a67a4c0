use Rattle.cds_follow.proofs.Received.{longest-run}
use Rattle.cds_follow.proofs.laws.the_longest_run_is_taken.Goals as goal

pub returns : goal.returns
returns c = longest-run
