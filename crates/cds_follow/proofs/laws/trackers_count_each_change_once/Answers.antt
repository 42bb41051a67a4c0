use Rattle.cds_follow.proofs.TrackEach.{each-tracked}
use Rattle.cds_follow.proofs.laws.trackers_count_each_change_once.Goals as goal

pub returns : goal.returns
returns c = each-tracked
