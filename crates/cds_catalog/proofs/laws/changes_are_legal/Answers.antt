use Rattle.cds_catalog.proofs.Found.{history_is_legal}
use Rattle.cds_catalog.proofs.laws.changes_are_legal.Goals as goal

pub returns : goal.returns
returns c = λ maps all. (history_is_legal maps all).0
