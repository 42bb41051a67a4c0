use Rattle.cds_replay.proofs.Left.{asks-left}
use Rattle.cds_replay.proofs.laws.asks_write_what_was_left.Goals as goal

pub returns : goal.returns
returns c = asks-left
