use Rattle.cds_notify.proofs.Bodies.{bodies-read}
use Rattle.cds_notify.proofs.laws.bodies_are_read_back.Goals as goal

pub returns : goal.returns
returns c = bodies-read
