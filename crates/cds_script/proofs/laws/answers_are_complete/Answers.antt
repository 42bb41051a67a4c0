use Rattle.cds_script.proofs.Stood.{answers-are_complete}
use Rattle.cds_script.proofs.laws.answers_are_complete.Goals as goal

pub returns : goal.returns
returns c = answers-are_complete
