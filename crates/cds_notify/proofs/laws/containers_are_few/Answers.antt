use Rattle.cds_notify.proofs.Containers.{containers-few}
use Rattle.cds_notify.proofs.laws.containers_are_few.Goals as goal

pub returns : goal.returns
returns c = containers-few
