use Rattle.cds_criteria.proofs.Places.{places}
use Rattle.cds_criteria.proofs.laws.tokens_stand_at_their_places.Goals as goal

pub returns : goal.returns
returns c = places
