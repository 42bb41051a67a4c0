use Rattle.cds_catalog.proofs.Own.{places_have_their_rows-proof}
use Rattle.cds_catalog.proofs.laws.places_have_their_rows.Goals as goal

pub returns : goal.returns
returns c = places_have_their_rows-proof
