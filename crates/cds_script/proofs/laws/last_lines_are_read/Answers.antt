use Rattle.cds_script.proofs.LineLaws.{last-read}
use Rattle.cds_script.proofs.laws.last_lines_are_read.Goals as goal

pub returns : goal.returns
returns c = last-read
