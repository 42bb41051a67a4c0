use Rattle.cds_didl.proofs.ReadBack.{rows-are-read-back}
use Rattle.cds_didl.proofs.laws.rows_are_read_back.Goals as goal

pub returns : goal.returns
returns c = rows-are-read-back
