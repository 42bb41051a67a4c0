use Rattle.cds_follow.proofs.Seen.{copies-shown}
use Rattle.cds_follow.proofs.laws.copied_rows_were_shown.Goals as goal

pub returns : goal.returns
returns c = copies-shown
