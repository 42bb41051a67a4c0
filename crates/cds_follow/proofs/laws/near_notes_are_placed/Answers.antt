use Rattle.cds_follow.proofs.Wire.{near-placed}
use Rattle.cds_follow.proofs.laws.near_notes_are_placed.Goals as goal

pub returns : goal.returns
returns c = near-placed
