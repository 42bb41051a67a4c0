use Rattle.cds_follow.proofs.LoadTurns.{loads-show-rows}
use Rattle.cds_follow.proofs.laws.loads_show_rows.Goals as goal

pub returns : goal.returns
returns c = loads-show-rows
