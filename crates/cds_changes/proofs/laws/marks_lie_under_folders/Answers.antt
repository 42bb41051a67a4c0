use Rattle.cds_changes.proofs.MarkedFolders.{marks_lie_under_folders-proof}
use Rattle.cds_changes.proofs.laws.marks_lie_under_folders.Goals as goal

pub returns : goal.returns
returns c = marks_lie_under_folders-proof
