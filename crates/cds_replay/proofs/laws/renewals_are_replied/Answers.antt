use Rattle.cds_replay.proofs.Replies.{renewals-replied}
use Rattle.cds_replay.proofs.laws.renewals_are_replied.Goals as goal

pub returns : goal.returns
returns c = renewals-replied
