use Rattle.cds_replay.proofs.Replies.{ends-replied}
use Rattle.cds_replay.proofs.laws.ends_are_replied.Goals as goal

pub returns : goal.returns
returns c = ends-replied
