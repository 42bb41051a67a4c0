use Rattle.cds_didl.proofs.OneAnswer.{one-answer-of-didl}
use Rattle.cds_didl.proofs.laws.one_answer.Goals as goal

pub returns : goal.returns
returns c = one-answer-of-didl
