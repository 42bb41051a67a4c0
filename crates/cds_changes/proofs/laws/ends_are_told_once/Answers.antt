use Rattle.cds_changes.proofs.MarkedFolders.{ends_are_told_once-proof}
use Rattle.cds_changes.proofs.laws.ends_are_told_once.Goals as goal

pub returns : goal.returns
returns c = ends_are_told_once-proof
