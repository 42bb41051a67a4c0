use Rattle.cds_changes.proofs.ContainerNumbers.{containers-numbered}
use Rattle.cds_changes.proofs.laws.containers_have_their_numbers.Goals as goal

pub returns : goal.returns
returns c = containers-numbered
