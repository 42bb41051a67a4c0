use Rattle.cds_didl.proofs.Plain.{rows-are-plain}
use Rattle.cds_didl.proofs.laws.rows_are_plain.Goals as goal

pub returns : goal.returns
returns c = rows-are-plain
