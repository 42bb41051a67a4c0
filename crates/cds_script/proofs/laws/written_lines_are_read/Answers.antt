use Rattle.cds_script.proofs.WordLaws.{lines-back}
use Rattle.cds_script.proofs.laws.written_lines_are_read.Goals as goal

-- src/laws.rt
pub returns : goal.returns
returns c = lines-back
