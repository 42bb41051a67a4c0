-- The law stands in the lemmas.
use Rattle.cds_markup.proofs.GivenLaws.{parts-are-given}
use Rattle.cds_markup.proofs.laws.parts_are_given.Goals as goal

pub returns : goal.returns
returns c = parts-are-given
