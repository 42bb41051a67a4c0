use Rattle.cds_catalog.proofs.Own.{ids_name_one_place-proof}
use Rattle.cds_catalog.proofs.laws.ids_name_one_place.Goals as goal

pub returns : goal.returns
returns c = ids_name_one_place-proof
