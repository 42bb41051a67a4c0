use Rattle.cds_follow.proofs.Complete.{answers-complete}
use Rattle.cds_follow.proofs.laws.honest_answers_are_complete.Goals as goal

pub returns : goal.returns
returns c = answers-complete
