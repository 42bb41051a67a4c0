use Rattle.cds_catalog.proofs.Accepted.{accepted_map}
use Rattle.cds_catalog.proofs.laws.accepted_records_are_a_library.Goals as goal

pub returns : goal.returns
returns c = accepted_map
