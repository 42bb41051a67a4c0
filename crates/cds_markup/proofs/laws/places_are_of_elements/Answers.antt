use Rattle.cds_markup.proofs.Readings.{places-are-of-elements}
use Rattle.cds_markup.proofs.laws.places_are_of_elements.Goals as goal

pub returns : goal.returns
returns c = places-are-of-elements
