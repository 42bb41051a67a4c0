use Rattle.cds_follow.proofs.LeadsSpan.{spans-lead}
use Rattle.cds_follow.proofs.laws.spans_lead_to_the_rows.Goals as goal

pub returns : goal.returns
returns c = spans-lead
