use Rattle.cds_catalog.proofs.Accepted.{accepted_stand}
use Rattle.cds_catalog.proofs.laws.accepted_records_stand_at_their_places.Goals as goal

pub returns : goal.returns
returns c = accepted_stand
