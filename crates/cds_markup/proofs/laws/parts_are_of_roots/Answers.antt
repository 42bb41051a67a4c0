-- The law stands in the lemmas.
use Rattle.cds_markup.proofs.GivenLaws.{parts-are-of-roots}
use Rattle.cds_markup.proofs.laws.parts_are_of_roots.Goals as goal

pub returns : goal.returns
returns c = parts-are-of-roots
