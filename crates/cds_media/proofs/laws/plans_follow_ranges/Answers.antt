use Rattle.cds_media.proofs.Counting.{followed}
use Rattle.cds_media.proofs.laws.plans_follow_ranges.Goals as goal

pub returns : goal.returns
returns c = followed
