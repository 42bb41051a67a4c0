use Rattle.cds_load.proofs.Seen.{copied-shown}
use Rattle.cds_load.proofs.laws.copied_rows_were_shown.Goals as goal

pub returns : goal.returns
returns c = copied-shown
