use Rattle.cds_script.proofs.Delivered.{answers-complete}
use Rattle.cds_script.proofs.laws.all_answers_are_complete.Goals as goal

pub returns : goal.returns
returns c = answers-complete
