use Rattle.cds_changes.proofs.Spans.{spans-stay}
use Rattle.cds_changes.proofs.laws.spans_stay.Goals as goal

pub returns : goal.returns
returns c = spans-stay
