use Rattle.cds_changes.proofs.ParentsEvents.{all-with_parents}
use Rattle.cds_changes.proofs.laws.with_parents_are_events.Goals as goal

pub returns : goal.returns
returns c = all-with_parents
