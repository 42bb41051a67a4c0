use Rattle.cds_follow.proofs.Position.{leave-load}
use Rattle.cds_follow.proofs.laws.notes_leave_the_load.Goals as goal

pub returns : goal.returns
returns c = leave-load
