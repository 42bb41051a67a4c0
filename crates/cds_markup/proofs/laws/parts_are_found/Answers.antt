-- The law stands in the lemmas.
use Rattle.cds_markup.proofs.EachPart.{parts-are-found}
use Rattle.cds_markup.proofs.laws.parts_are_found.Goals as goal

pub returns : goal.returns
returns c = parts-are-found
