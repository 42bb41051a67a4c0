use Rattle.cds_script.proofs.MayBe.{lines-range}
use Rattle.cds_script.proofs.laws.lines_mean_in_range.Goals as goal

pub returns : goal.returns
returns c = lines-range
