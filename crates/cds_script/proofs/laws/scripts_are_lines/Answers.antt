use Rattle.cds_script.proofs.LineLaws.{are-lines}
use Rattle.cds_script.proofs.laws.scripts_are_lines.Goals as goal

pub returns : goal.returns
returns c = are-lines
