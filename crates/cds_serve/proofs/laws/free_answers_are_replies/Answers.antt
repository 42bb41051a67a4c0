use Rattle.cds_serve.proofs.Free.{free-replies}
use Rattle.cds_serve.proofs.laws.free_answers_are_replies.Goals as goal

pub returns : goal.returns
returns c = free-replies
