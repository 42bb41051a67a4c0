use Rattle.cds_object.proofs.BadNames.{bad_places}
use Rattle.cds_object.proofs.laws.bad_names_have_their_place.Goals as goal

pub returns : goal.returns
returns c = bad_places
