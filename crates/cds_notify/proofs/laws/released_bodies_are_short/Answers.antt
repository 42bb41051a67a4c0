use Rattle.cds_notify.proofs.Containers.{released-short}
use Rattle.cds_notify.proofs.laws.released_bodies_are_short.Goals as goal

pub returns : goal.returns
returns c = released-short
