use Rattle.cds_follow.proofs.Ended.{base-last-end}
use Rattle.cds_follow.proofs.laws.base_is_the_last_end.Goals as goal

pub returns : goal.returns
returns c = base-last-end
