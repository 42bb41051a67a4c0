use Rattle.cds_markup.proofs.Public.{places-are-one}
use Rattle.cds_markup.proofs.laws.places_are_one.Goals as goal

pub returns : goal.returns
returns c = places-are-one
