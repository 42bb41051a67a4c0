use Rattle.cds_replay.proofs.Unchanged.{straight-reports}
use Rattle.cds_replay.proofs.laws.straight_reports_are_the_scripts.Goals as goal

pub returns : goal.returns
returns c = straight-reports
