use Rattle.cds_didl.proofs.Whole.{report-is-the-whole}
use Rattle.cds_didl.proofs.laws.report_is_the_whole.Goals as goal

pub returns : goal.returns
returns c = report-is-the-whole
