use Rattle.cds_replay.proofs.Unchanged.{straight-taken}
use Rattle.cds_replay.proofs.laws.straight_wires_are_taken.Goals as goal

pub returns : goal.returns
returns c = straight-taken
