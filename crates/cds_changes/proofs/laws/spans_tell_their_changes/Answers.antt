use Rattle.cds_changes.proofs.Told.{spans-tell}
use Rattle.cds_changes.proofs.laws.spans_tell_their_changes.Goals as goal

pub returns : goal.returns
returns c = spans-tell
