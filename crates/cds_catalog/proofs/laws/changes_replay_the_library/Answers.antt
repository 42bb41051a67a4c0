use Rattle.cds_catalog.proofs.Found.{history_is_legal}
use Rattle.cds_catalog.proofs.laws.changes_replay_the_library.Goals as goal

pub returns : goal.returns
returns c = λ maps all path. (history_is_legal maps all).1 path
