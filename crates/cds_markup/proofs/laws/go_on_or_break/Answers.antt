-- The law stands in the lemmas.
use Rattle.cds_markup.proofs.GoingOn.{go-on-or-break}
use Rattle.cds_markup.proofs.laws.go_on_or_break.Goals as goal

pub returns : goal.returns
returns c = go-on-or-break
