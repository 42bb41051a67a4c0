use Rattle.cds_catalog.proofs.BadLines.{bad_lines}
use Rattle.cds_catalog.proofs.laws.bad_records_have_their_line.Goals as goal

pub returns : goal.returns
returns c = bad_lines
