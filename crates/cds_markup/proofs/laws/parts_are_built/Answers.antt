-- The law stands in the lemmas.
use Rattle.cds_markup.proofs.Readings.{parts-are-built}
use Rattle.cds_markup.proofs.laws.parts_are_built.Goals as goal

pub returns : goal.returns
returns c = parts-are-built
