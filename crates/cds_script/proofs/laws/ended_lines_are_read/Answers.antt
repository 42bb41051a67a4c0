use Rattle.cds_script.proofs.LineLaws.{ended-read}
use Rattle.cds_script.proofs.laws.ended_lines_are_read.Goals as goal

pub returns : goal.returns
returns c = ended-read
