use Rattle.cds_replay.proofs.Once.{ends-once}
use Rattle.cds_replay.proofs.laws.wires_end_once.Goals as goal

pub returns : goal.returns
returns c = ends-once
