use Rattle.cds_announce.proofs.Answered.{one-announcement}
use Rattle.cds_announce.proofs.laws.one_announcement.Goals as goal

pub returns : goal.returns
returns c = one-announcement
