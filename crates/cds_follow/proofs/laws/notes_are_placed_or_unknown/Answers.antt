use Rattle.cds_follow.proofs.Wire.{placed-or-unknown}
use Rattle.cds_follow.proofs.laws.notes_are_placed_or_unknown.Goals as goal

pub returns : goal.returns
returns c = placed-or-unknown
