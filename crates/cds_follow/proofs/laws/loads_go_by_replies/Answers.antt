use Rattle.cds_follow.proofs.ByReplies.{go-by-replies}
use Rattle.cds_follow.proofs.laws.loads_go_by_replies.Goals as goal

pub returns : goal.returns
returns c = go-by-replies
