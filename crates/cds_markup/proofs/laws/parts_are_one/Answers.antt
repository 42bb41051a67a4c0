-- The law stands in the lemmas.
use Rattle.cds_markup.proofs.GivenLaws.{parts-are-one}
use Rattle.cds_markup.proofs.laws.parts_are_one.Goals as goal

pub returns : goal.returns
returns c = parts-are-one
