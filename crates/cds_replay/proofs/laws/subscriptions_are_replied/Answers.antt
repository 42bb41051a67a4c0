use Rattle.cds_replay.proofs.Replies.{subscriptions-replied}
use Rattle.cds_replay.proofs.laws.subscriptions_are_replied.Goals as goal

pub returns : goal.returns
returns c = subscriptions-replied
