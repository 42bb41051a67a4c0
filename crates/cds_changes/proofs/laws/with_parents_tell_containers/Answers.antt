use Rattle.cds_changes.proofs.ParentsContainers.{tell-containers}
use Rattle.cds_changes.proofs.laws.with_parents_tell_containers.Goals as goal

pub returns : goal.returns
returns c = tell-containers
