use Rattle.cds_follow.proofs.Honest.{copies-stood}
use Rattle.cds_follow.proofs.laws.honest_copies_stood.Goals as goal

pub returns : goal.returns
returns c = copies-stood
