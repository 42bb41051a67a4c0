use Rattle.cds_criteria.proofs.Folds.{empty_here}
use Rattle.cds_criteria.proofs.folded.has_folded.Goals as goal

pub returns-in-empty : goal.returns-in-empty
returns-in-empty c = empty_here c.args.value.now c.args.text.now c.in-empty.len_below
