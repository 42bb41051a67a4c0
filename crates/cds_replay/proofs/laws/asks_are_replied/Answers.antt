use Rattle.cds_replay.proofs.Replies.{asks-replied}
use Rattle.cds_replay.proofs.laws.asks_are_replied.Goals as goal

pub returns : goal.returns
returns c = asks-replied
