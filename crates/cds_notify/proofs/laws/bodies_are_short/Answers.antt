use Rattle.cds_notify.proofs.Lengths.{bodies-short}
use Rattle.cds_notify.proofs.laws.bodies_are_short.Goals as goal

pub returns : goal.returns
returns c = bodies-short
