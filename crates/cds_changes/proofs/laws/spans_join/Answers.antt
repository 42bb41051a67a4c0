use Rattle.cds_changes.proofs.Spans.{spans-join}
use Rattle.cds_changes.proofs.laws.spans_join.Goals as goal

pub returns : goal.returns
returns c = spans-join
