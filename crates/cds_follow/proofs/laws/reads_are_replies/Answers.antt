use Rattle.cds_follow.proofs.Replied.{reads-replied}
use Rattle.cds_follow.proofs.laws.reads_are_replies.Goals as goal

pub returns : goal.returns
returns c = reads-replied
