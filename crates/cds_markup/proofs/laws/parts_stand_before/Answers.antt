-- The law stands in the lemmas.
use Rattle.cds_markup.proofs.GivenLaws.{parts-stand-before}
use Rattle.cds_markup.proofs.laws.parts_stand_before.Goals as goal

pub returns : goal.returns
returns c = parts-stand-before
